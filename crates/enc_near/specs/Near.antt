-- A coded frame that is near its target: each coefficient is one of those that are nearest to the forward transform of what its
-- prediction lacks (own). s is the frame's shape, setup what the setup header says, refs what is predicted from, target the frame that
-- is to be shown, c the coded frame, b a block, k a place of the natural order.
use Rattle.std.specs.Prelude.{ℕ, ◌≡◌, ◌≤◌, ◌<◌, ◌/◌, ◌%◌, ℤ, pos, negsuc, ◌+ℤ◌, ◌-ℤ◌, ◌*ℤ◌, ◌≤ℤ◌, true, false, List, [], map, take, get_or, if◌then◌else◌}
use Rattle.std.specs.List.{range_with_len}
use Rattle.std.specs.Int.RustNames.{unsigned_abs}
use Rattle.vid_base.specs.declared.shape.Shape.{Shape}
use Rattle.vid_geom.specs.declared.block.Block.{Block}
use Rattle.vid_geom.specs.CodedOrder.{IsBlock, block_columns, place_of}
use Rattle.vid_plane.specs.declared.frame.Frame.{Frame}
use Rattle.thr_setup.specs.Setup.{Contents}
use Rattle.thr_dc.specs.Frames.{raster_place, plane_of as plane_values}
use Rattle.thr_dc.specs.Prediction.{predicted}
use Rattle.thr_dct.specs.Forward.{forward_of}
use Rattle.thr_dct.specs.Line.{entry}
use Rattle.thr_recon.specs.Residual.{zigzag}
use Rattle.thr_frame.specs.CodedFrame.{CodedFrame, kinds_of}
use Rattle.thr_frame.specs.Rebuilt.{Pair, matrix_of, mode_at, predictor_at}
use Rattle.enc_search.specs.Searched.{Samples, block_samples}

-- the predicted samples of a block: one that is not coded shows the previous frame's
unfoldable pub prediction : Shape → Pair → CodedFrame → Block → Samples
prediction s refs c b = if get_or c.flags (place_of s b) false then predictor_at s refs c b else block_samples refs.prev b

-- what a prediction lacks, in natural order
unfoldable pub lacking : Samples → Samples → List ℤ
lacking target P = map (λ k. pos (target (k % 8) (k / 8)) -ℤ pos (P (k % 8) (k / 8))) (range_with_len 0 64)

-- how far a number of steps of q is from f
unfoldable pub apart : ℤ → ℕ → ℤ → ℕ
apart f q c = unsigned_abs (f -ℤ c *ℤ pos q)

-- no number from low to high is nearer
pub record IsNearest (f : ℤ) (q : ℕ) (low high c : ℤ) : Type 0 where
  pub least : (d : ℤ) → low ≤ℤ d → d ≤ℤ high → apart f q c ≤ apart f q d

-- the greatest coefficient that a token can hold, and the least
abbrev pub most : ℤ
most = pos 580

abbrev pub fewest : ℤ
fewest = negsuc 579

-- the coefficient of a block for a place of the natural order
unfoldable pub coefficient : Shape → CodedFrame → Block → ℕ → ℤ
coefficient s c b k = entry (get_or c.values (place_of s b) []) (get_or zigzag k 0)

-- what the DC value of a block is predicted as: by the values of the blocks before it in the raster order of its plane
unfoldable pub dc_predictor : Shape → CodedFrame → Block → ℤ
dc_predictor s c b = predicted (block_columns s b.pli) (take (raster_place s b) (plane_values s c.flags (kinds_of s c.modes) c.values b.pli)) (get_or (kinds_of s c.modes) (place_of s b) 0)

-- the matrix entries of a block
abbrev pub block_matrix : Contents → Shape → CodedFrame → Block → List ℕ
block_matrix setup s c b = matrix_of setup c (mode_at s c b) b.pli 0

-- the forward transform of what the prediction of a block lacks
abbrev pub wanted : Shape → Pair → Frame → CodedFrame → Block → List ℤ
wanted s refs target c b = forward_of (lacking (block_samples target b) (prediction s refs c b))

-- each coefficient of a block is nearest: of those that tokens can hold, and the DC value of a coded block of those whose difference
-- from the predictor they can hold
pub record IsNearBlock (setup : Contents) (s : Shape) (refs : Pair) (target : Frame) (c : CodedFrame) (b : Block) : Type 0 where
  pub others : (k : ℕ) → 0 < k → k < 64 → IsNearest (entry (wanted s refs target c b) k) (get_or (block_matrix setup s c b) k 0) fewest most (coefficient s c b k)
  pub dc : get_or c.flags (place_of s b) false ≡ true
      → IsNearest (entry (wanted s refs target c b) 0) (get_or (block_matrix setup s c b) 0 0) (dc_predictor s c b -ℤ most) (dc_predictor s c b +ℤ most) (coefficient s c b 0)
  pub uncoded : get_or c.flags (place_of s b) false ≡ false → IsNearest (entry (wanted s refs target c b) 0) (get_or (block_matrix setup s c b) 0 0) fewest most (coefficient s c b 0)

-- each block of a frame is near
pub record IsNearFrame (setup : Contents) (s : Shape) (refs : Pair) (target : Frame) (c : CodedFrame) : Type 0 where
  pub blocks : (b : Block) → IsBlock s b → IsNearBlock setup s refs target c b
