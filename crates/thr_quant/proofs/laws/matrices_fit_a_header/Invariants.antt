use Rattle.std.proofs.Common.{ℕ, ◌<◌, List, get_or}
use Rattle.thr_quant.specs.Ramps.{IsBaseMatrix}
use Rattle.thr_quant.proofs.laws.matrices_fit_a_header.Given as goal

-- the matrices so far
abbrev pub invariant-loop-matrix : goal.invariant-loop-matrix
invariant-loop-matrix l = (k : ℕ) (blank : List ℕ) → k < l.matrix-index → IsBaseMatrix (get_or l.matrices k blank)
