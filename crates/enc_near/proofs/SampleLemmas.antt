-- What blocks are predicted from, by kind and by mode. `predictor` and the frame cite these.
use Rattle.std.proofs.Common.{◌≡◌, ℕ, ◌==◌, ◌*◌, Bool, true, false, get_or, refl, if◌then◌else◌}
use Rattle.std.proofs.lemmas.Bool.{eqb-true}
use Rattle.vid_base.specs.declared.shape.Shape.{Shape}
use Rattle.vid_geom.specs.declared.block.Block.{Block}
use Rattle.vid_geom.specs.CodedOrder.{place_of}
use Rattle.vid_geom.proofs.OrderLemmas.{not_true}
use Rattle.vid_plane.specs.Frames.{plane_of}
use Rattle.thr_modes.specs.Vectors.{Offset, still}
use Rattle.thr_recon.specs.Predicted.{flat, predicted_by}
use Rattle.thr_frame.specs.CodedFrame.{CodedFrame, intra_mode, is_golden, kind_of}
use Rattle.thr_frame.specs.Rebuilt.{Pair, mode_at, halves_columns, halves_rows, matrix_kind, predictor_at}
use Rattle.enc_near.specs.Made.{samples_by}

-- from nothing
pub flat_by : (s : Shape) (refs : Pair) (kind : ℕ) (v : Offset) (b : Block) → kind ≡ 0 → flat ≡ samples_by s refs kind v b
unfolding samples_by
flat_by s refs kind v b nothing = rw nothing refl

-- from a frame
pub led_by : (s : Shape) (refs : Pair) (kind : ℕ) (v : Offset) (b : Block) → (kind ≡ 0 → ⊥)
    → predicted_by (plane_of (if kind == 2 then refs.golden else refs.prev) b.pli) (8 * b.col) (8 * b.row) v.x v.y (halves_columns s b.pli) (halves_rows s b.pli) ≡ samples_by s refs kind v b
unfolding samples_by
led_by s refs kind v b some =
    let other : (kind == 0) ≡ false = not_true (kind == 0) (λ yes. some (eqb-true kind 0 yes)) in
    rw other refl

-- the kind that a mode has gives the samples that the mode predicts
pub predictor_is : (s : Shape) (refs : Pair) (c : CodedFrame) (b : Block) → samples_by s refs (kind_of (mode_at s c b)) (get_or c.vectors (place_of s b) still) b ≡ predictor_at s refs c b
unfolding samples_by predictor_at
predictor_is s refs c b = go (mode_at s c b == intra_mode) (is_golden (mode_at s c b)) refl refl
  where
    v : Offset
    v = get_or c.vectors (place_of s b) still

    go : (intra golden : Bool) → (mode_at s c b == intra_mode) ≡ intra → is_golden (mode_at s c b) ≡ golden → samples_by s refs (kind_of (mode_at s c b)) v b ≡ predictor_at s refs c b
    go true golden e g = rw e refl
    go false true e g = rw (e, g) refl
    go false false e g = rw (e, g) refl

-- and the matrix
pub matrix_kind_is : (mode : ℕ) → (if kind_of mode == 0 then 0 else 3) ≡ 3 * matrix_kind mode
matrix_kind_is mode = go (mode == intra_mode) (is_golden mode) refl refl
  where
    go : (intra golden : Bool) → (mode == intra_mode) ≡ intra → is_golden mode ≡ golden → (if kind_of mode == 0 then 0 else 3) ≡ 3 * matrix_kind mode
    go true golden e g = rw e refl
    go false true e g = rw (e, g) refl
    go false false e g = rw (e, g) refl
