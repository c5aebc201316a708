-- What a coded block is predicted from, and its planes. `predictor` and `reference` cite these.
use Rattle.std.proofs.Common.{◌≡◌, ℕ, zero, suc, ◌==◌, ◌*◌, ◌<◌, Bool, true, false, get_or, refl, arith, if◌then◌else◌}
use Rattle.std.proofs.lemmas.Bool.{eqb-true}
use Rattle.vid_base.specs.declared.shape.Shape.{Shape}
use Rattle.vid_geom.specs.declared.block.Block.{Block}
use Rattle.vid_geom.specs.CodedOrder.{place_of}
use Rattle.vid_geom.proofs.OrderLemmas.{not_true}
use Rattle.vid_plane.specs.Frames.{IsPlaneOf, IsFrameOf, plane_of}
use Rattle.vid_plane.specs.declared.frame.Frame.{Frame}
use Rattle.thr_modes.specs.Vectors.{Offset, still}
use Rattle.thr_recon.specs.Predicted.{flat, predicted_by}
use Rattle.thr_frame.specs.CodedFrame.{CodedFrame, intra_mode}
use Rattle.thr_frame.specs.Rebuilt.{Pair, mode_at, halves_columns, halves_rows, predictor_at, reference_of}
use Rattle.thr_frame.specs.Painted.{AreSealed}

-- an intra block
pub flat_is : (s : Shape) (refs : Pair) (c : CodedFrame) (b : Block) (mode : ℕ) → mode_at s c b ≡ mode → mode ≡ 1 → flat ≡ predictor_at s refs c b
unfolding predictor_at
flat_is s refs c b mode e intra = rw (e, intra) refl

-- any other
pub led_is : (s : Shape) (refs : Pair) (c : CodedFrame) (b : Block) (mode : ℕ) (v : Offset) → mode_at s c b ≡ mode → (mode ≡ 1 → ⊥) → get_or c.vectors (place_of s b) still ≡ v
    → predicted_by (reference_of refs mode b.pli) (8 * b.col) (8 * b.row) v.x v.y (halves_columns s b.pli) (halves_rows s b.pli) ≡ predictor_at s refs c b
unfolding predictor_at
led_is s refs c b mode v e inter vector =
    let other : (mode == intra_mode) ≡ false = not_true (mode == intra_mode) (λ yes. inter (eqb-true mode 1 yes)) in
    rw (e, other, vector) refl

-- the planes of a frame
pub plane_sealed : (f : Frame) (pli : ℕ) → AreSealed f → (plane_of f pli).sealed ≡ true
plane_sealed f pli are = go (pli == 0) (pli == 1)
  where
    go : (a b : Bool) → (if a then f.y else if b then f.cb else f.cr).sealed ≡ true
    go true b = are.y
    go false true = are.cb
    go false false = are.cr

pub plane_sized : (s : Shape) (f : Frame) (pli : ℕ) → pli < 3 → IsFrameOf s f → IsPlaneOf s pli (plane_of f pli)
plane_sized s f zero h is = is.y
plane_sized s f (suc zero) h is = is.cb
plane_sized s f (suc (suc zero)) h is = is.cr
plane_sized s f (suc (suc (suc n))) h is = absurd (omega arith)
