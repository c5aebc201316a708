-- The length of a number in binary digits, and a number written behind another.
use Rattle.std.proofs.Common.{◌≡◌, ℕ, suc, ◌+◌, ◌*◌, ◌%◌, ◌^◌, ◌<◌, ◌≤◌, arith, inl, inr}
use Rattle.std.proofs.Math.Nat.{pow-suc, mod-eq_of_lt, mul-le-mul_left}
use Rattle.std.proofs.Math.Pow.{pow_mono}
use Rattle.std.proofs.lemmas.Nat.{pow-add, leading_length}
use Rattle.std.proofs.lemmas.Bool.{cases_lt}
use Rattle.vid_base.specs.Arithmetic.{bit_length}

not_longer : (v m k : ℕ) → v < 2 ^ k → 2 ^ m ≤ 2 * v + 1 → m ≤ k
not_longer v m k b top = elim (cases_lt k m) [
  | inl longer ↦
      let grows : 2 ^ suc k ≤ 2 ^ m = pow_mono (omega arith) in
      absurd (omega (arith, pow-suc 2 k))
  | inr done ↦ done
]

pub length_above : (v : ℕ) → v < 2 ^ 32 → v < 2 ^ bit_length v
length_above v h =
    let found = leading_length 32 v h in
    let is_length : bit_length v ≡ found.0 = omega (arith, found.1) in
    rw is_length found.2

pub length_least : (v : ℕ) → v < 2 ^ 32 → (k : ℕ) → v < 2 ^ k → bit_length v ≤ k
length_least v h k b =
    let found = leading_length 32 v h in
    let is_length : bit_length v ≡ found.0 = omega (arith, found.1) in
    rw is_length (not_longer v found.0 k b found.3)

-- one number behind another has the digits of both
pub joined_small : (m n v w : ℕ) → v < 2 ^ m → w < 2 ^ n → v * 2 ^ n + w < 2 ^ (m + n)
joined_small m n v w h k =
    let most : suc v * 2 ^ n ≤ 2 ^ m * 2 ^ n = omega (arith, mul-le-mul_left (2 ^ n) h) in
    rw pow-add (omega arith)

-- and fits k bits where both have no more
pub joined_fits : (m n k v w : ℕ) → v < 2 ^ m → w < 2 ^ n → m + n ≤ k → (v * 2 ^ n + w < 2 ^ k) × (v * 2 ^ n % 2 ^ k ≡ v * 2 ^ n)
joined_fits m n k v w h i room =
    let most : 2 ^ (m + n) ≤ 2 ^ k = pow_mono room in
    let below : v * 2 ^ n + w < 2 ^ k = omega (arith, joined_small m n v w h i) in
    (below, mod-eq_of_lt (omega arith))
