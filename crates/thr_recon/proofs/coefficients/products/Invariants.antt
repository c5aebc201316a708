use Rattle.std.proofs.Common.{◌≡◌, ◌<◌, ℕ, length, get_or}
use Rattle.std.specs.Int.{cast_signed, w16}
use Rattle.thr_dct.specs.Line.{entry}
use Rattle.thr_recon.specs.Residual.{product}
use Rattle.thr_recon.proofs.coefficients.products.Given as goal

-- the places so far have their products
abbrev pub invariant-loop-p : goal.invariant-loop-p
invariant-loop-p l = record {
  long : length l.out ≡ 64;
  done : (k : ℕ) → k < l.p → entry l.out k ≡ product (cast_signed w16 (get_or l.ordered k 0)) (get_or l.ac k 0);
}
