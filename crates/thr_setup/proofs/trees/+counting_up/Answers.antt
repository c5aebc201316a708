use Rattle.std.proofs.Common.{length, arith}
use Rattle.thr_setup.proofs.ImportLemmas.{halves}
use Rattle.thr_setup.proofs.trees.+counting_up.Goals as goal

pub counting_up-requires : goal.counting_up-requires
counting_up-requires t c = (omega arith, omega (arith, (halves c.args.width (length c.split_at.result.0.now) (omega arith) (omega arith)).0))

pub counting_up-requires-2 : goal.counting_up-requires-2
counting_up-requires-2 t c = (omega arith, omega (arith, (halves c.args.width (length c.split_at.result.0.now) (omega arith) (omega arith)).1))
