-- The high half of a product by a constant that is less by one as a signed number. `scaled` cites these.
use Rattle.std.proofs.Common.{arith, ◌≡◌, ◌<◌, ◌≤◌, ◌^◌, sym, ap, ◌∙◌, ℕ, ◌+ℤ◌, ◌*ℤ◌, ℤ, pos, negsuc, ◌≤ℤ◌}
use Rattle.std.specs.Int.{w16, w32}
use Rattle.std.specs.Int.Signed.{nat_abs-le, shr_z}
use Rattle.std.proofs.lemmas.Int.{ints, fits_signed_mul, of_z-to_z}
use Rattle.std.proofs.Math.IntN.{*ℤ_comm}
use Rattle.thr_dct.proofs.SpreadLemmas.{mul_add}
use mir.Val.{SFits, to_z, of_z}

product_fits : (c : ℕ) (v : ℤ) → c < 2 ^ 16 → SFits w16 v → SFits w32 (pos c *ℤ v)
product_fits c v small fits = fits_signed_mul w32 (pos c) v 65535 32768 (omega arith) (nat_abs-le v fits.sfits) (omega arith)

half_fits : (z : ℤ) → SFits w32 z → SFits w16 (shr_z z 65536)
half_fits (pos a) fits = let below : a < 2147483648 = fits.sfits in record { sfits = omega arith }
half_fits (negsuc a) fits = let below : a < 2147483648 = fits.sfits in record { sfits = omega arith }

pub scaled_fits : (c : ℕ) (v : ℤ) → c < 2 ^ 16 → SFits w16 v → SFits w16 (shr_z (pos c *ℤ v) 65536)
scaled_fits c v small fits = half_fits (pos c *ℤ v) (product_fits c v small fits)

-- a shift to the right goes down to the nearest
record IsFloor (z q : ℤ) : Type 0 where
  low : (pos 65536 *ℤ q) ≤ℤ z
  high : z ≤ℤ (pos 65536 *ℤ q +ℤ pos 65535)

floor_of : (z : ℤ) → IsFloor z (shr_z z 65536)
floor_of (pos a) = record { low = omega (arith, ints); high = omega (arith, ints) }
floor_of (negsuc a) = record { low = omega (arith, ints); high = omega (arith, ints) }

floor_is : (z q : ℤ) → IsFloor z q → shr_z z 65536 ≡ q
floor_is (pos a) (pos b) floor = let low = floor.low in let high = floor.high in omega (arith, ints)
floor_is (pos a) (negsuc b) floor = let low = floor.low in let high = floor.high in omega (arith, ints)
floor_is (negsuc a) (pos b) floor = let low = floor.low in let high = floor.high in omega (arith, ints)
floor_is (negsuc a) (negsuc b) floor = let low = floor.low in let high = floor.high in omega (arith, ints)

floor_of_sum : (x y v s : ℤ) → IsFloor x s → y ≡ x +ℤ pos 65536 *ℤ v → shr_z y 65536 ≡ s +ℤ v
floor_of_sum x y v s floor e =
    let low = floor.low in let high = floor.high in floor_is y (s +ℤ v) (record { low = omega (arith, ints); high = omega (arith, ints) })

product_of_sum : (a c v : ℤ) → a ≡ c +ℤ negsuc 65535 → c *ℤ v ≡ a *ℤ v +ℤ pos 65536 *ℤ v
product_of_sum a c v e =
    let left : a *ℤ v ≡ v *ℤ c +ℤ v *ℤ negsuc 65535 = ap (λ z. z *ℤ v) e ∙ *ℤ_comm (c +ℤ negsuc 65535) v ∙ mul_add v c (negsuc 65535) in
    let turned : c *ℤ v ≡ v *ℤ c = *ℤ_comm c v in omega (arith, ints)

less_by_one : (z : ℤ) (c : ℕ) → of_z w16 z ≡ c → SFits w16 z → 32768 ≤ c → z ≡ pos c +ℤ negsuc 65535
less_by_one (pos n) c e fits from = let below : n < 32768 = fits.sfits in omega (arith, ints)
less_by_one (negsuc n) c e fits from = let below : n < 32768 = fits.sfits in omega (arith, ints)

-- z is the constant as a signed number
pub more_by_one : (z : ℤ) (c : ℕ) (v : ℤ) → z ≡ to_z w16 c → SFits w16 z → c < 2 ^ 16 → 32768 ≤ c → shr_z (z *ℤ v) 65536 +ℤ v ≡ shr_z (pos c *ℤ v) 65536
more_by_one z c v is fits below from =
    let less : z ≡ pos c +ℤ negsuc 65535 = less_by_one z c (ap (of_z w16) is ∙ of_z-to_z w16 c below) fits from in
    sym (floor_of_sum (z *ℤ v) (pos c *ℤ v) v _ (floor_of (z *ℤ v)) (product_of_sum z (pos c) v less))
