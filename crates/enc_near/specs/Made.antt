-- (private) The coefficients of a block before its DC value is kept near a predictor (own): f is what they are to be times their entries,
-- in natural order, m the matrix, z the coefficients in zigzag order.
use Rattle.std.specs.Prelude.{ℕ, ◌≡◌, ◌≤◌, ◌<◌, ◌+◌, ◌*◌, ◌==◌, ℤ, unsigned_abs, All, List, [], ◌∷◌, length, get_or, if◌then◌else◌}
use Rattle.vid_base.specs.declared.shape.Shape.{Shape}
use Rattle.vid_geom.specs.declared.block.Block.{Block}
use Rattle.vid_plane.specs.Frames.{plane_of}
use Rattle.thr_quant.specs.Ramps.{Ramps}
use Rattle.thr_quant.specs.Matrix.{matrix_at}
use Rattle.thr_modes.specs.Vectors.{Offset}
use Rattle.thr_dct.specs.Line.{entry}
use Rattle.thr_recon.specs.Predicted.{flat, predicted_by}
use Rattle.thr_recon.specs.Residual.{zigzag}
use Rattle.thr_frame.specs.Rebuilt.{Pair, halves_columns, halves_rows}
use Rattle.enc_search.specs.Searched.{Samples}
use Rattle.enc_near.specs.Near.{IsNearest, fewest, most}
use Rattle.enc_near.specs.Rounds.{Rounds}

-- the place in natural order of each place of the zigzag order
unfoldable pub natural : List ℕ
natural =
    0 ∷ 1 ∷ 8 ∷ 16 ∷ 9 ∷ 2 ∷ 3 ∷ 10
    ∷ 17 ∷ 24 ∷ 32 ∷ 25 ∷ 18 ∷ 11 ∷ 4 ∷ 5
    ∷ 12 ∷ 19 ∷ 26 ∷ 33 ∷ 40 ∷ 48 ∷ 41 ∷ 34
    ∷ 27 ∷ 20 ∷ 13 ∷ 6 ∷ 7 ∷ 14 ∷ 21 ∷ 28
    ∷ 35 ∷ 42 ∷ 49 ∷ 56 ∷ 57 ∷ 50 ∷ 43 ∷ 36
    ∷ 29 ∷ 22 ∷ 15 ∷ 23 ∷ 30 ∷ 37 ∷ 44 ∷ 51
    ∷ 58 ∷ 59 ∷ 52 ∷ 45 ∷ 38 ∷ 31 ∷ 39 ∷ 46
    ∷ 53 ∷ 60 ∷ 61 ∷ 54 ∷ 47 ∷ 55 ∷ 62 ∷ 63 ∷ []

-- nearest coefficients, and the first a quotient to the nearest whole number
pub record AreMade (f : List ℤ) (m : List ℕ) (z : List ℤ) : Type 0 where
  pub long : length z ≡ 64
  pub first : Rounds (entry f 0) (get_or m 0 0) (entry z 0)
  pub others : (k : ℕ) → 0 < k → k < 64 → IsNearest (entry f k) (get_or m k 0) fewest most (entry z (get_or zigzag k 0))
  pub small : All (λ v. unsigned_abs v ≤ 580) z

-- entries of a matrix by which a quotient is small
pub record AreEntries (m : List ℕ) : Type 0 where
  pub each : All (λ q. 8 ≤ q) m
  pub first : 16 ≤ get_or m 0 0

-- the matrices of the three planes at a quantiser index: those of intra and then those of inter blocks
unfoldable pub matrices_of : Ramps → ℕ → List (List ℕ)
matrices_of ramps qi =
    matrix_at ramps 0 0 qi ∷ matrix_at ramps 0 1 qi ∷ matrix_at ramps 0 2 qi
    ∷ matrix_at ramps 1 0 qi ∷ matrix_at ramps 1 1 qi ∷ matrix_at ramps 1 2 qi ∷ []

-- where the matrix of a block stands among these, by what the block is predicted from (0 nothing, 1 the previous frame, 2 the golden one)
abbrev pub matrix_place : ℕ → ℕ → ℕ
matrix_place kind pli = (if kind == 0 then 0 else 3) + pli

-- the predicted samples of a block
unfoldable pub samples_by : Shape → Pair → ℕ → Offset → Block → Samples
samples_by s refs kind v b =
    if kind == 0 then flat
    else predicted_by (plane_of (if kind == 2 then refs.golden else refs.prev) b.pli) (8 * b.col) (8 * b.row) v.x v.y (halves_columns s b.pli) (halves_rows s b.pli)
