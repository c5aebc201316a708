use Rattle.std.proofs.Common.{◌≡◌, ◌<◌, ℕ, true, get_or}
use Rattle.thr_recon.proofs.coefficients.are_zeros.Given as goal

-- none of the numbers so far is another than 0
abbrev pub invariant-loop-k : goal.invariant-loop-k
invariant-loop-k l = l.zeros ≡ true → (j : ℕ) → j < l.k → get_or l.numbers j 0 ≡ 0
