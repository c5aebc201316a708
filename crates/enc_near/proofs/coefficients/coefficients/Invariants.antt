use Rattle.enc_near.proofs.CoefficientLemmas.{AreFirstMade}
use Rattle.enc_near.proofs.coefficients.coefficients.Given as goal

abbrev pub invariant-loop-z : goal.invariant-loop-z
invariant-loop-z l = AreFirstMade l.wanted l.matrix l.z l.out
