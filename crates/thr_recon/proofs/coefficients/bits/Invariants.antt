use Rattle.std.proofs.Common.{◌≡◌, ◌+◌, ◌<◌, ℕ, length, get_or}
use Rattle.std.specs.Int.{cast_signed, w16}
use Rattle.thr_dct.specs.Line.{entry}
use Rattle.thr_recon.proofs.coefficients.bits.Given as goal

-- the bits so far are those of their coefficients
abbrev pub invariant-loop-k : goal.invariant-loop-k
invariant-loop-k l = record {
  long : length l.out ≡ 32;
  done : (j : ℕ) → j < l.k → cast_signed w16 (get_or l.out j 0) ≡ entry l.c (l.from + j);
}
