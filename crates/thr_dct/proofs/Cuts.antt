-- A cut of a sum does not depend on what was cut of its parts, and a signed number that was passed or stored is what it
-- was. Functions have these by `using`.
use Rattle.std.proofs.Common.{◌≡◌, ◌+ℤ◌, ◌-ℤ◌, ℤ, neg_ℤ}
use Rattle.std.specs.Int.{w16}
use Rattle.std.proofs.lemmas.Int.{to_z-of_z, int_wrap-add_left, int_wrap-add_right, int_wrap-sub_right}
use Rattle.thr_dct.specs.Line.{cut}

pub left_of_sum : (a b : ℤ) → cut (cut a +ℤ b) ≡ cut (a +ℤ b)
unfolding cut
left_of_sum a b = int_wrap-add_left w16 a b

pub right_of_sum : (a b : ℤ) → cut (a +ℤ cut b) ≡ cut (a +ℤ b)
unfolding cut
right_of_sum a b = int_wrap-add_right w16 a b

pub left_of_difference : (a b : ℤ) → cut (cut a -ℤ b) ≡ cut (a -ℤ b)
unfolding cut
left_of_difference a b = int_wrap-add_left w16 a (neg_ℤ b)

pub right_of_difference : (a b : ℤ) → cut (a -ℤ cut b) ≡ cut (a -ℤ b)
unfolding cut
right_of_difference a b = int_wrap-sub_right w16 a b

pub ruleset cuts = (to_z-of_z, left_of_sum, right_of_sum, left_of_difference, right_of_difference)

pub ruleset casts = (to_z-of_z)
