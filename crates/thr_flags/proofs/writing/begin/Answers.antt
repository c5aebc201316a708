use Rattle.thr_flags.proofs.WritingLemmas.{open_first}
use Rattle.thr_flags.proofs.writing.begin.Goals as goal

pub returns-clause-written : goal.returns-clause-written
returns-clause-written c = λ code. open_first code c.args.w.now c.put_bit.new.w c.args.value c.in_ok-put_bit.ensures.written
