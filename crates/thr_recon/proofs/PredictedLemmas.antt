-- Predictors that show the samples to which a vector leads. `predict` cites these.
use Rattle.std.proofs.Common.{◌≡◌, ◌+ℤ◌, ℕ, ℤ, pos, Bool, true, false, ◌&&◌, refl, Decides}
use Rattle.std.specs.Ordering.{int_eq}
use Rattle.std.proofs.lemmas.Bool.Decides.{Decides-int_eq}
use Rattle.vid_base.specs.declared.shape.Vector.{Vector}
use Rattle.vid_plane.specs.Picture.{Picture}
use Rattle.vid_plane.specs.Seen.{picture_of, left_of, lower_of}
use Rattle.vid_plane.specs.declared.window.Window.{Window}
use Rattle.thr_recon.specs.declared.predictor.Predictor.TheVariants.{One, Two}
use Rattle.thr_recon.specs.Predicted.{shown, near_offset, far_offset, predicted, predicted_by}

-- a window stands where the offsets of a vector lead
pub record LedTo (a : Window) (p : Picture) (left lower : ℤ) : Type 0 where
  pub plane : picture_of a ≡ p
  pub left_is : left_of a ≡ left
  pub lower_is : lower_of a ≡ lower

differs : (a b : Bool) (P Q : Type 0) → Decides a P → Decides b Q → (P → Q → ⊥) → (a && b) ≡ false
differs false b P Q d e n = refl
differs true false P Q d e n = refl
differs true true P Q d e n = absurd (n (d.0 refl) (e.0 refl))

-- both offsets agree
pub shown-one : (a : Window) (p : Picture) (x y : ℕ) (v : Vector) (half_x half_y : Bool)
    → LedTo a p (pos x +ℤ near_offset half_x v.x) (pos y +ℤ near_offset half_y v.y)
    → near_offset half_x v.x ≡ far_offset half_x v.x → near_offset half_y v.y ≡ far_offset half_y v.y
    → shown (One a) ≡ predicted p x y v half_x half_y
unfolding shown predicted predicted_by
shown-one a p x y v half_x half_y led same_x same_y =
    let e = led.plane in
    let l = led.left_is in
    let m = led.lower_is in
    let s : int_eq (near_offset half_x v.x) (far_offset half_x v.x) ≡ true = (Decides-int_eq (near_offset half_x v.x) (far_offset half_x v.x)).1 same_x in
    let t : int_eq (near_offset half_y v.y) (far_offset half_y v.y) ≡ true = (Decides-int_eq (near_offset half_y v.y) (far_offset half_y v.y)).1 same_y in
    rw (e, l, m, s, t) refl

-- one of them differs
pub shown-two : (a b : Window) (p : Picture) (x y : ℕ) (v : Vector) (half_x half_y : Bool)
    → LedTo a p (pos x +ℤ near_offset half_x v.x) (pos y +ℤ near_offset half_y v.y)
    → LedTo b p (pos x +ℤ far_offset half_x v.x) (pos y +ℤ far_offset half_y v.y)
    → (near_offset half_x v.x ≡ far_offset half_x v.x → near_offset half_y v.y ≡ far_offset half_y v.y → ⊥)
    → shown (Two a b) ≡ predicted p x y v half_x half_y
unfolding shown predicted predicted_by
shown-two a b p x y v half_x half_y near far apart =
    let e = near.plane in
    let l = near.left_is in
    let m = near.lower_is in
    let f = far.plane in
    let n = far.left_is in
    let o = far.lower_is in
    let s = differs (int_eq (near_offset half_x v.x) (far_offset half_x v.x)) (int_eq (near_offset half_y v.y) (far_offset half_y v.y)) _ _
    (Decides-int_eq (near_offset half_x v.x) (far_offset half_x v.x)) (Decides-int_eq (near_offset half_y v.y) (far_offset half_y v.y)) apart in
    rw (e, l, m, f, n, o, s) refl
