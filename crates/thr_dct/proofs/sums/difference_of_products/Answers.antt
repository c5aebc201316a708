use Rattle.std.proofs.Common.{arith}
use Rattle.std.proofs.lemmas.Int.{ints}
use Rattle.thr_dct.proofs.sums.difference_of_products.Goals as goal

pub returns-clause-bound : goal.returns-clause-bound
returns-clause-bound c = record { low = omega (arith, ints); high = omega (arith, ints) }
