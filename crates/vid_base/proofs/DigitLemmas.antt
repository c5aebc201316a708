-- Binary digits of numbers: splitting, shifting, and what they have to do with bytes. Every writer and the checksum of pages cite these.
use Rattle.std.proofs.Common.{◌≡◌, ℕ, zero, suc, ◌+◌, ◌*◌, ◌/◌, ◌%◌, ◌^◌, ◌<◌, ◌≤◌, Bool, true, false, nat_eq, List, [], ◌∷◌, ◌++◌, length, drop, refl, ap, sym, ◌∙◌, arith}
use Rattle.std.proofs.lemmas.Nat.Bits.{bit_at_cat_low, bit_at-zero}
use Rattle.std.proofs.lemmas.Nat.{shr-shr, div-mul-add, mod-mul-add}
use Rattle.std.specs.Int.{bit_at}
use Rattle.std.proofs.Math.Nat.{div-add-mod, one-le-pow, mul-div_cancel, mod-eq-sub-div-mul}
use Rattle.vid_base.specs.Bits.{digits, zeros, bits_of, bit_of, byte_bits, digit}

-- an equation in each of two arguments
pub ap-two : {A B C : Type 0} (f : A → B → C) {a a' : A} {b b' : B} → a ≡ a' → b ≡ b' → f a b ≡ f a' b'
ap-two f p q = cc

pub length-digits : (n v : ℕ) → length (digits n v) ≡ n
unfolding digits
length-digits zero v = refl
length-digits (suc n) v = omega (arith, length-digits n v)

pub length-zeros : (n : ℕ) → length (zeros n) ≡ n
unfolding zeros
length-zeros zero = refl
length-zeros (suc n) = omega (arith, length-zeros n)

-- the digits of the upper and of the lower part of a number
pub digits-cat : (m n v : ℕ) → digits (m + n) v ≡ digits m (v / 2 ^ n) ++ digits n v
unfolding digits
digits-cat zero n v = let none : 0 + n ≡ n = omega arith in rw none refl
digits-cat (suc m) n v =
    let one : suc m + n ≡ suc (m + n) = omega arith in
    let turned : n + m ≡ m + n = omega arith in
    let head : bit_of (m + n) v ≡ bit_of m (v / 2 ^ n) = ap (λ q. nat_eq (q % 2) 1) (ap (λ k. v / 2 ^ k) (sym turned) ∙ sym (shr-shr v n m)) in
    rw one (rw (head, digits-cat m n v) refl)

-- what stands above k bits does not count for the lowest n of them
pub digits-mod : (n k v : ℕ) → n ≤ k → digits n (v % 2 ^ k) ≡ digits n v
unfolding digits
digits-mod zero k v h = refl
digits-mod (suc n) k v h =
    let whole : v / 2 ^ k * 2 ^ k + v % 2 ^ k ≡ v = omega (arith, div-add-mod v (2 ^ k)) in
    let same_bit : bit_at (v % 2 ^ k) n ≡ bit_at v n = sym (bit_at_cat_low (v / 2 ^ k) k (v % 2 ^ k) n (omega arith)) ∙ ap (λ u. bit_at u n) whole in
    let head : bit_of n (v % 2 ^ k) ≡ bit_of n v = ap (λ b. nat_eq b 1) same_bit in
    rw (head, digits-mod n k v (omega arith)) refl

pub digits-zero : (n : ℕ) → digits n 0 ≡ zeros n
unfolding digits zeros
digits-zero zero = refl
digits-zero (suc n) = let head : bit_of n 0 ≡ false = ap (λ b. nat_eq b 1) (bit_at-zero n) in rw (head, digits-zero n) refl

-- a number written behind another: their digits one behind the other
pub digits-joined : (m n v w : ℕ) → w < 2 ^ n → digits (m + n) (v * 2 ^ n + w) ≡ digits m v ++ digits n w
digits-joined m n v w h =
    let upper : (v * 2 ^ n + w) / 2 ^ n ≡ v = div-mul-add v (2 ^ n) w h in
    let lower : (v * 2 ^ n + w) % 2 ^ n ≡ w = mod-mul-add v (2 ^ n) w h in
    digits-cat m n (v * 2 ^ n + w)
    ∙ ap-two (λ a b. a ++ b) (ap (digits m) upper) (sym (digits-mod n n (v * 2 ^ n + w) (omega arith)) ∙ ap (digits n) lower)

-- no digit of a multiple
digits-multiple : (n k v : ℕ) → n ≤ k → digits n (v * 2 ^ k) ≡ zeros n
digits-multiple n k v h =
    let back : v * 2 ^ k / 2 ^ k ≡ v = mul-div_cancel v (one-le-pow k 2 (omega arith)) in
    let none : v * 2 ^ k % 2 ^ k ≡ 0 = mod-eq-sub-div-mul (v * 2 ^ k) (2 ^ k) ∙ rw back (omega arith) in
    sym (digits-mod n k (v * 2 ^ k) h) ∙ ap (digits n) none ∙ digits-zero n

-- a shift to the left
pub digits-shift : (n k v : ℕ) → digits (n + k) (v * 2 ^ k) ≡ digits n v ++ zeros k
digits-shift n k v =
    let back : v * 2 ^ k / 2 ^ k ≡ v = mul-div_cancel v (one-le-pow k 2 (omega arith)) in
    digits-cat n k (v * 2 ^ k) ∙ ap-two (λ a b. a ++ b) (ap (digits n) back) (digits-multiple k k v (omega arith))

-- the lower digits are those behind the upper ones
pub drop-digits : (m n v : ℕ) → drop m (digits (m + n) v) ≡ digits n v
unfolding digits
drop-digits zero n v = let none : 0 + n ≡ n = omega arith in rw none refl
drop-digits (suc m) n v = let one : suc m + n ≡ suc (m + n) = omega arith in rw one (drop-digits m n v)

pub digits-byte : (b : ℕ) → digits 8 b ≡ byte_bits b
unfolding digits
digits-byte b = refl

pub bits_of-byte : (b : ℕ) → bits_of (b ∷ []) ≡ digits 8 b
unfolding bits_of digits
bits_of-byte b = refl

pub bits_of-append : (xs ys : List ℕ) → bits_of (xs ++ ys) ≡ bits_of xs ++ bits_of ys
unfolding bits_of
bits_of-append [] ys = refl
bits_of-append (x ∷ xs) ys = ap (λ b. byte_bits x ++ b) (bits_of-append xs ys)

pub length-bits_of : (bytes : List ℕ) → length (bits_of bytes) ≡ 8 * length bytes
unfolding bits_of
length-bits_of [] = refl
length-bits_of (b ∷ bytes) = omega (arith, length-bits_of bytes)

pub digit-lt : (d : Bool) → digit d < 2
digit-lt true = omega arith
digit-lt false = omega arith

last_digit : (u : ℕ) (b : Bool) → digits 1 (2 * u + digit b) ≡ b ∷ []
unfolding digits
last_digit u true = let odd : (2 * u + 1) / 2 ^ 0 % 2 ≡ 1 = omega arith in ap (λ m. nat_eq m 1 ∷ []) odd
last_digit u false = let even : (2 * u + 0) / 2 ^ 0 % 2 ≡ 0 = omega arith in ap (λ m. nat_eq m 1 ∷ []) even

-- one digit more at the end
pub digits-snoc : (n u : ℕ) (b : Bool) → digits (n + 1) (2 * u + digit b) ≡ digits n u ++ b ∷ []
digits-snoc n u b =
    let half : (2 * u + digit b) / 2 ^ 1 ≡ u = omega (arith, digit-lt b) in
    digits-cat n 1 (2 * u + digit b) ∙ ap-two (λ x y. x ++ y) (ap (digits n) half) (last_digit u b)
