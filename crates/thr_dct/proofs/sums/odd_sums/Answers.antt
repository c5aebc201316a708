use Rattle.std.proofs.Common.{arith}
use Rattle.std.proofs.lemmas.Int.{to_z-of_z}
use Rattle.thr_dct.proofs.sums.odd_sums.Goals as goal

pub returns-clause-f1 : goal.returns-clause-f1
returns-clause-f1 c = grind (arith, to_z-of_z)

pub returns-clause-f3 : goal.returns-clause-f3
returns-clause-f3 c = grind (arith, to_z-of_z)

pub returns-clause-f5 : goal.returns-clause-f5
returns-clause-f5 c = grind (arith, to_z-of_z)

pub returns-clause-f7 : goal.returns-clause-f7
returns-clause-f7 c = grind (arith, to_z-of_z)
