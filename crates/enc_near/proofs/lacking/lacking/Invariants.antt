use Rattle.enc_near.proofs.LackingLemmas.{AreFirstDifferences}
use Rattle.enc_near.proofs.lacking.lacking.Given as goal

abbrev pub invariant-loop-k : goal.invariant-loop-k
invariant-loop-k l = AreFirstDifferences l.target l.predicted l.k l.out
