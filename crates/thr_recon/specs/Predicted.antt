-- Predicted samples of a block (Theora I, 7.9.1 and 7.9.4). p is the plane that is predicted from, x and y are the column and the row of the block's lower left
-- sample, and dx and dy count columns and rows from there.
use Rattle.std.specs.Prelude.{ℕ, ℤ, pos, ◌+ℤ◌, ◌-ℤ◌, ◌+◌, ◌-◌, ◌/◌, ◌&&◌, Bool, if◌then◌else◌}
use Rattle.std.specs.Int.{is_negative}
use Rattle.std.specs.Int.RustNames.{unsigned_abs}
use Rattle.std.specs.Ordering.{int_eq}
use Rattle.vid_base.specs.declared.shape.Vector.{Vector}
use Rattle.vid_plane.specs.Picture.{Picture}
use Rattle.vid_plane.specs.Windows.{seen}
use Rattle.vid_plane.specs.Seen.{picture_of, left_of, lower_of}
use Rattle.thr_recon.specs.declared.predictor.Predictor.{Predictor}
use Rattle.thr_recon.specs.declared.predictor.Predictor.TheVariants.{Flat, One, Two}

-- the samples from there on
unfoldable pub moved : Picture → ℤ → ℤ → ℕ → ℕ → ℕ
moved p left lower dx dy = seen p (left +ℤ pos dx) (lower +ℤ pos dy)

-- the mean of two samples, rounded downwards
unfoldable pub mean_of : (ℕ → ℕ → ℕ) → (ℕ → ℕ → ℕ) → ℕ → ℕ → ℕ
mean_of f g dx dy = (f dx dy + g dx dy) / 2

-- what an intra block is predicted from
unfoldable pub flat : ℕ → ℕ → ℕ
flat dx dy = 128

-- the samples of a predictor
unfoldable pub shown : Predictor → ℕ → ℕ → ℕ
shown Flat = flat
shown (One a) = moved (picture_of a) (left_of a) (lower_of a)
shown (Two a b) = mean_of (moved (picture_of a) (left_of a) (lower_of a)) (moved (picture_of b) (left_of b) (lower_of b))

-- how many steps of a vector one sample has: half samples, and on an axis on which the plane is subsampled quarters
abbrev pub steps : Bool → ℕ
steps half = if half then 4 else 2

-- that many samples in a component's direction
unfoldable pub signed : ℤ → ℕ → ℤ
signed component size = if is_negative component then pos 0 -ℤ pos size else pos size

-- the whole samples of a component, rounded towards zero
unfoldable pub near_offset : Bool → ℤ → ℤ
near_offset half component = signed component (unsigned_abs component / steps half)

-- and rounded away from zero
unfoldable pub far_offset : Bool → ℤ → ℤ
far_offset half component = signed component ((unsigned_abs component + (steps half - 1)) / steps half)

-- the samples that a vector of these components leads to: those at the near offsets, or where an offset differs their mean with those at the far ones
unfoldable pub predicted_by : Picture → ℕ → ℕ → ℤ → ℤ → Bool → Bool → ℕ → ℕ → ℕ
predicted_by p x y across upwards half_x half_y =
    let near = moved p (pos x +ℤ near_offset half_x across) (pos y +ℤ near_offset half_y upwards) in
    let far = moved p (pos x +ℤ far_offset half_x across) (pos y +ℤ far_offset half_y upwards) in
    if int_eq (near_offset half_x across) (far_offset half_x across) && int_eq (near_offset half_y upwards) (far_offset half_y upwards)
    then near
    else mean_of near far

-- the samples that a vector leads to
unfoldable pub predicted : Picture → ℕ → ℕ → Vector → Bool → Bool → ℕ → ℕ → ℕ
predicted p x y vector half_x half_y = predicted_by p x y vector.x vector.y half_x half_y
