-- How well the luma blocks of a macro block are predicted, and the candidates that a prediction is compared with (own). s is the frame's
-- shape, target the frame that is to be coded, refs the frames that it is predicted from, b a block; P gives the predicted samples of a
-- block by column and row from its lower left one.
use Rattle.std.specs.Prelude.{ℕ, ◌≤◌, ◌+◌, ◌*◌, ◌/◌, ◌%◌, ◌==◌, ℤ, pos, negsuc, false, List, ◌∷◌, map, sum_by, All, Contains, if◌then◌else◌}
use Rattle.std.specs.List.{range_with_len}
use Rattle.std.specs.Int.{abs_diff}
use Rattle.vid_base.specs.declared.shape.Shape.{Shape}
use Rattle.vid_geom.specs.declared.block.Block.{Block}
use Rattle.vid_geom.specs.MacroBlocks.{Area, macro_blocks}
use Rattle.vid_plane.specs.Picture.{pixel}
use Rattle.vid_plane.specs.Frames.{plane_of}
use Rattle.vid_plane.specs.declared.frame.Frame.{Frame}
use Rattle.thr_recon.specs.Predicted.{flat, predicted_by}
use Rattle.thr_frame.specs.Rebuilt.{Pair}

-- the samples of a block
abbrev pub Samples : Type 0
Samples = ℕ → ℕ → ℕ

-- those of a block of a frame
abbrev pub block_samples : Frame → Block → Samples
block_samples frame b u v = pixel (plane_of frame b.pli) (8 * b.col + u) (8 * b.row + v)

-- how far the samples of a row are apart: the sum of the absolute differences
unfoldable pub row_distance : Samples → Samples → ℕ → ℕ
row_distance f g v = sum_by (λ u. abs_diff (f u v) (g u v)) (range_with_len 0 8)

-- those of a block
unfoldable pub block_distance : Samples → Samples → ℕ
block_distance f g = sum_by (row_distance f g) (range_with_len 0 8)

-- those of blocks
unfoldable pub luma_distance : Frame → (Block → Samples) → List Block → ℕ
luma_distance target P blocks = sum_by (λ b. block_distance (block_samples target b) (P b)) blocks

-- those of the luma blocks of a macro block
abbrev pub macro_distance : Frame → (Block → Samples) → Area → ℕ
macro_distance target P area = luma_distance target P area.luma

-- what a luma prediction is compared with: 128 in each sample, the golden frame where the block stands, and the previous frame as far
-- to the right and upwards as a vector says, in half samples
pub data Candidate : Type 0 where
  Flat : Candidate
  Golden : Candidate
  Moved : ℤ → ℤ → Candidate

-- the samples of a luma block that it predicts
unfoldable pub candidate_samples : Pair → Candidate → Block → Samples
candidate_samples refs Flat b = flat
candidate_samples refs Golden b = predicted_by refs.golden.y (8 * b.col) (8 * b.row) (pos 0) (pos 0) false false
candidate_samples refs (Moved across upwards) b = predicted_by refs.prev.y (8 * b.col) (8 * b.row) across upwards false false

-- the even numbers from -8 to 8 by k below 9, the nearest to 0 first: 0, -2, 2, -4, 4, -6, 6, -8, 8
abbrev pub even : ℕ → ℤ
even k = if k % 2 == 0 then pos k else negsuc k

-- the vectors of two even components from -8 to 8: one by k below 81, and all
abbrev pub even_vector : ℕ → Candidate
even_vector k = Moved (even (k % 9)) (even (k / 9))

unfoldable pub moves : List Candidate
moves = map even_vector (range_with_len 0 81)

-- all 83
unfoldable pub candidates : List Candidate
candidates = Flat ∷ Golden ∷ moves

-- a macro block is predicted no worse than by any candidate
unfoldable pub IsLeast : Pair → Frame → (Block → Samples) → List Block → Type 0
IsLeast refs target P blocks = All (λ candidate. luma_distance target P blocks ≤ luma_distance target (candidate_samples refs candidate) blocks) candidates

-- and so is each
pub record IsSearched (s : Shape) (refs : Pair) (target : Frame) (P : Block → Samples) : Type 0 where
  pub least : (area : Area) → Contains (macro_blocks s) area → IsLeast refs target P area.luma
