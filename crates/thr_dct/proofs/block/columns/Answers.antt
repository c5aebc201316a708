use Rattle.std.proofs.Common.{arith}
use Rattle.thr_dct.proofs.PassLemmas.{columns_done}
use Rattle.thr_dct.proofs.block.columns.Goals as goal

pub returns : goal.returns
returns c = columns_done c.args.block.now c.loop-j.out c.loop-j.invariant.long (λ k j below inside. c.loop-j.invariant.done k j below (omega arith))
