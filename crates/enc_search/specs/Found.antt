-- (private) A mode and a vector for all blocks of a macro block. memory is what is remembered before it.
use Rattle.std.specs.Prelude.{ℕ, ◌≡◌, ◌<◌, ◌*◌, ◌==◌, false, List, replicate, if◌then◌else◌}
use Rattle.vid_base.specs.declared.shape.Shape.{Shape}
use Rattle.vid_geom.specs.declared.block.Block.{Block}
use Rattle.vid_geom.specs.CodedOrder.{IsBlock}
use Rattle.vid_plane.specs.declared.frame.Frame.{Frame}
use Rattle.thr_modes.specs.Chosen.{IsVector, motion_for}
use Rattle.thr_modes.specs.Vectors.{Offset}
use Rattle.thr_modes.specs.Motion.{Memory, same_motion}
use Rattle.thr_recon.specs.Predicted.{flat, predicted_by}
use Rattle.thr_frame.specs.CodedFrame.{intra_mode}
use Rattle.thr_frame.specs.Rebuilt.{Pair, reference_of}
use Rattle.enc_search.specs.Searched.{Samples, IsLeast}

-- the samples of a luma block
unfoldable pub luma_samples : Pair → ℕ → Offset → Block → Samples
luma_samples refs mode v b =
    let reference = reference_of refs mode 0 in
    if mode == intra_mode then flat else predicted_by reference (8 * b.col) (8 * b.row) v.x v.y false false

-- the mode allows the vector; modes 6 and 7 are never chosen
pub record IsAllowed (memory : Memory) (mode : ℕ) (v : Offset) : Type 0 where
  pub small : mode < 6
  pub vector : IsVector v
  pub motion : (pf : ℕ) → same_motion pf v ≡ motion_for pf mode memory (replicate 4 v)

-- they may be chosen for the macro block of these luma blocks
pub record IsFound (refs : Pair) (target : Frame) (memory : Memory) (mode : ℕ) (v : Offset) (blocks : List Block) : Type 0 where
  pub allowed : IsAllowed memory mode v
  pub least : IsLeast refs target (luma_samples refs mode v) blocks

-- a luma block of a frame of that shape
abbrev pub IsLuma : Shape → Block → Type 0
IsLuma s b = IsBlock s b × (b.pli ≡ 0)
