-- Rebuilt blocks (Theora I, 7.9.4): f is the predicted sample in each column and row of the block, and r holds the residuals in natural order.
use Rattle.std.specs.Prelude.{ℕ, ℤ, pos, ◌+ℤ◌, ◌+◌, ◌*◌, List, map}
use Rattle.std.specs.Int.{saturate_unsigned, w8}
use Rattle.std.specs.List.{range_with_len}
use Rattle.thr_dct.specs.Line.{entry}

-- the sample nearest to a number: it is clamped to 0 to 255
unfoldable pub sample_of : ℤ → ℕ
sample_of v = saturate_unsigned w8 v

-- a predicted sample and its residual
unfoldable pub rebuilt : (ℕ → ℕ → ℕ) → List ℤ → ℕ → ℕ → ℕ
rebuilt f r u v = sample_of (pos (f u v) +ℤ entry r (8 * v + u))

-- eight rows of eight samples, the lowest row first; the sample in column u of row v is given
unfoldable pub block_of : (ℕ → ℕ → ℕ) → List (List ℕ)
block_of f = map (λ v. map (λ u. f u v) (range_with_len 0 8)) (range_with_len 0 8)
