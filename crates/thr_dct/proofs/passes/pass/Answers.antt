use Rattle.std.proofs.Common.{arith}
use Rattle.thr_dct.proofs.ForwardLemmas.{pass_done}
use Rattle.thr_dct.proofs.passes.pass.Goals as goal

pub returns : goal.returns
returns c = pass_done c.args.block.now c.loop-r.out c.loop-r.invariant.long (λ u j below inside. c.loop-r.invariant.done u j below (omega arith))
