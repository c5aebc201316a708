use Rattle.std.proofs.Common.{arith}
use Rattle.thr_dct.specs.Inverse.{settled}
use Rattle.thr_dct.proofs.PassLemmas.{mapped_columns_done}
use Rattle.thr_dct.proofs.block.settled_columns.Goals as goal

pub returns : goal.returns
returns c = mapped_columns_done settled c.args.block.now c.loop-j.out c.loop-j.invariant.long (λ k j below inside. c.loop-j.invariant.done k j below (omega arith))
