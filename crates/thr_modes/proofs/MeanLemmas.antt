-- The mean of vectors from those of their components. The means cite these.
use Rattle.std.proofs.Common.{◌≡◌, ℤ, pos, ◌+ℤ◌, [], ◌∷◌, refl, arith}
use Rattle.std.proofs.lemmas.Int.{ints}
use Rattle.vid_base.specs.Arithmetic.{rounded}
use Rattle.thr_modes.specs.Vectors.{Offset}
use Rattle.thr_modes.specs.Motion.{mean}

pub mean_of_two_is : (a b : Offset) (x y : ℤ) → x ≡ rounded (a.x +ℤ b.x) (pos 2) → y ≡ rounded (a.y +ℤ b.y) (pos 2) → ◌≡◌ {A = Offset} (record { x = x; y = y }) (mean (a ∷ b ∷ []))
unfolding mean
mean_of_two_is a b x y across upwards =
    let columns : pos 0 +ℤ a.x +ℤ b.x ≡ a.x +ℤ b.x = omega (arith, ints) in
    let rows : pos 0 +ℤ a.y +ℤ b.y ≡ a.y +ℤ b.y = omega (arith, ints) in
    rw (columns, rows, across, upwards) refl

pub mean_of_four_is : (a b c d : Offset) (x y : ℤ) → x ≡ rounded ((a.x +ℤ b.x) +ℤ (c.x +ℤ d.x)) (pos 4) → y ≡ rounded ((a.y +ℤ b.y) +ℤ (c.y +ℤ d.y)) (pos 4) → ◌≡◌ {A = Offset} (record { x = x; y = y }) (mean (a ∷ b ∷ c ∷ d ∷ []))
unfolding mean
mean_of_four_is a b c d x y across upwards =
    let columns : pos 0 +ℤ a.x +ℤ b.x +ℤ c.x +ℤ d.x ≡ (a.x +ℤ b.x) +ℤ (c.x +ℤ d.x) = omega (arith, ints) in
    let rows : pos 0 +ℤ a.y +ℤ b.y +ℤ c.y +ℤ d.y ≡ (a.y +ℤ b.y) +ℤ (c.y +ℤ d.y) = omega (arith, ints) in
    rw (columns, rows, across, upwards) refl
