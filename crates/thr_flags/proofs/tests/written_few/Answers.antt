use Rattle.thr_flags.proofs.WritingLemmas.{few_rows}
use Rattle.thr_flags.proofs.tests.written_few.Goals as goal

pub write_short-requires : goal.write_short-requires
write_short-requires c = few_rows 30 c.args.values.now c.requires
