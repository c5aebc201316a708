-- Numbers and their digits are inverse to each other; taking bits. Readers, writers and look-up tables cite these.
use Rattle.std.proofs.Common.{◌≡◌, ℕ, zero, suc, ◌+◌, ◌*◌, ◌/◌, ◌%◌, ◌^◌, ◌<◌, ◌≤◌, Bool, nat_lt, Option, true, false, nat_eq, List, [], ◌∷◌, ◌++◌, length, length-append, take, drop, Some, None, refl, ap, sym, ◌∙◌, arith, cond, inl, inr}
use Rattle.std.proofs.Math.Nat.{pow-suc, div-add-mod, mod-lt, one-le-pow}
use Rattle.std.proofs.Math.Dec.{ltb}
use Rattle.std.proofs.Math.Seq.{take-append_seam, drop-append_seam}
use Rattle.std.proofs.lemmas.Nat.{div-mul-add}
use Rattle.std.proofs.lemmas.List.{length-take-le}
use Rattle.std.proofs.lemmas.Bool.{cases_lt, lt-ltb, le-ltb, ltb-false, ltb-true}
use Rattle.vid_base.specs.Bits.{digits, digit, bit_of, number_from, number, take_bits, number_in}
use Rattle.vid_base.proofs.DigitLemmas.{length-digits, digits-mod}

digit_of : (q : ℕ) → q < 2 → digit (nat_eq (q % 2) 1) ≡ q
digit_of zero h = refl
digit_of (suc zero) h = refl
digit_of (suc (suc q)) h = absurd (omega arith)

quotient_small : (p q r : ℕ) → p * q + r < p * 2 → q < 2
quotient_small p zero r h = omega arith
quotient_small p (suc zero) r h = omega arith
quotient_small p (suc (suc q)) r h = absurd (omega arith)

-- a number's digits give it back
pub number-digits : (n a v : ℕ) → v < 2 ^ n → number_from a (digits n v) ≡ a * 2 ^ n + v
unfolding digits number_from
number-digits zero a v h = omega arith
number-digits (suc n) a v h =
    let twice : 2 ^ suc n ≡ 2 ^ n * 2 = pow-suc 2 n in
    let parts : 2 ^ n * (v / 2 ^ n) + v % 2 ^ n ≡ v = div-add-mod v (2 ^ n) in
    let small : v / 2 ^ n < 2 = quotient_small (2 ^ n) (v / 2 ^ n) (v % 2 ^ n) (omega arith) in
    let bit : digit (bit_of n v) ≡ v / 2 ^ n = digit_of (v / 2 ^ n) small in
    let low : v % 2 ^ n < 2 ^ n = mod-lt v (one-le-pow n 2 (omega arith)) in
    ap (number_from (2 * a + digit (bit_of n v))) (sym (digits-mod n n v (omega arith)))
    ∙ number-digits n (2 * a + digit (bit_of n v)) (v % 2 ^ n) low
    ∙ rw (bit, twice) (omega arith)

number_from-is : (a : ℕ) (bits : List Bool) → number_from a bits ≡ a * 2 ^ length bits + number_from 0 bits
unfolding number_from
number_from-is a [] = omega arith
number_from-is a (true ∷ bits) = rw (pow-suc 2 (length bits)) (omega (arith, number_from-is (2 * a + 1) bits, number_from-is 1 bits))
number_from-is a (false ∷ bits) =
    let double : 2 * a + 0 ≡ 2 * a = omega arith in
    let first : number_from a (false ∷ bits) ≡ number_from (2 * a) bits = ap (λ n. number_from n bits) double in
    let none : number_from 0 (false ∷ bits) ≡ number_from 0 bits = refl in
    rw (pow-suc 2 (length bits)) (omega (arith, number_from-is (2 * a) bits, first, none))

-- a number of so many bits is below the power of that length
pub number-lt : (bits : List Bool) → number_from 0 bits < 2 ^ length bits
unfolding number_from
number-lt [] = omega arith
number-lt (true ∷ bits) = omega (arith, number_from-is 1 bits, number-lt bits, pow-suc 2 (length bits))
number-lt (false ∷ bits) = omega (arith, number-lt bits, pow-suc 2 (length bits))

low_bit : (a : ℕ) (b : Bool) → nat_eq ((2 * a + digit b) % 2) 1 ≡ b
low_bit a true = let e : (2 * a + 1) % 2 ≡ 1 = omega arith in rw e refl
low_bit a false = let e : (2 * a + 0) % 2 ≡ 0 = omega arith in rw e refl

-- the digits of the number that bits are, are those bits
pub digits-number_from : (a : ℕ) (bits : List Bool) → digits (length bits) (number_from a bits) ≡ bits
unfolding digits number_from
digits-number_from a [] = refl
digits-number_from a (b ∷ bits) =
    let value : number_from (2 * a + digit b) bits ≡ (2 * a + digit b) * 2 ^ length bits + number_from 0 bits = number_from-is (2 * a + digit b) bits in
    let upper : number_from (2 * a + digit b) bits / 2 ^ length bits ≡ 2 * a + digit b = ap (λ z. z / 2 ^ length bits) value ∙ div-mul-add (2 * a + digit b) (2 ^ length bits) (number_from 0 bits) (number-lt bits) in
    let head : bit_of (length bits) (number_from (2 * a + digit b) bits) ≡ b = ap (λ z. nat_eq (z % 2) 1) upper ∙ low_bit a b in
    rw (head, digits-number_from (2 * a + digit b) bits) refl

-- fewer bits than are asked for
pub take-none : (n : ℕ) (bits : List Bool) → length bits < n → take_bits n bits ≡ None
unfolding take_bits
take-none n bits h = let few : ltb (length bits) n ≡ true = lt-ltb (length bits) n h in rw few refl

taken : (n v : ℕ) (bits rest : List Bool) → n ≤ length bits → v ≡ number_from 0 (take n bits) → rest ≡ drop n bits → take_bits n bits ≡ Some (v, rest)
unfolding take_bits number
taken n v bits rest h e f = let enough : ltb (length bits) n ≡ false = le-ltb (length bits) n h in rw (enough, e, f) refl

-- the first n bits, where so many are there
pub taken-enough : (n : ℕ) (bits : List Bool) → n ≤ length bits → take_bits n bits ≡ Some (number (take n bits), drop n bits)
unfolding number
taken-enough n bits h = taken n (number (take n bits)) bits (drop n bits) h refl refl

-- what was put is taken, whatever follows it
pub take-digits : (n v : ℕ) (rest : List Bool) → v < 2 ^ n → take_bits n (digits n v ++ rest) ≡ Some (v, rest)
take-digits n v rest h =
    let front : take n (digits n v ++ rest) ≡ digits n v = ap (λ k. take k (digits n v ++ rest)) (sym (length-digits n v)) ∙ take-append_seam (digits n v) rest in
    let back : drop n (digits n v ++ rest) ≡ rest = ap (λ k. drop k (digits n v ++ rest)) (sym (length-digits n v)) ∙ drop-append_seam (digits n v) rest in
    let value : number_from 0 (digits n v) ≡ v = number-digits n 0 v h ∙ omega arith in
    taken n v (digits n v ++ rest) rest (omega (arith, length-append (digits n v) rest, length-digits n v)) (sym (ap (number_from 0) front ∙ value)) (sym back)

rest_in : Option (ℕ × List Bool) → List Bool
rest_in None = []
rest_in (Some pair) = pair.1

value_in : Option ℕ → ℕ
value_in None = 0
value_in (Some v) = v

-- the digits of the number that the next bits are
pub peeked-digits : (n w : ℕ) (bits : List Bool) → number_in (take_bits n bits) ≡ Some w → digits n w ≡ take n bits
unfolding take_bits number value_in
peeked-digits n w bits e = go (nat_lt (length bits) n) refl e
  where
    go : (t : Bool) → nat_lt (length bits) n ≡ t → number_in (cond t None (Some (number (take n bits), drop n bits))) ≡ Some w → digits n w ≡ take n bits
    go true h e = cc
    go false h e =
        let len : length (take n bits) ≡ n = length-take-le n bits (ltb-false (length bits) n h) in
        let v : w ≡ number_from 0 (take n bits) = sym (ap value_in e) in
        rw v (ap (λ k. digits k (number_from 0 (take n bits))) (sym len) ∙ digits-number_from 0 (take n bits))

-- so many bits are there where some were taken
pub taken-some : (n v : ℕ) (bits rest : List Bool) → take_bits n bits ≡ Some (v, rest) → (n ≤ length bits) × (drop n bits ≡ rest)
unfolding take_bits rest_in
taken-some n v bits rest e = go (nat_lt (length bits) n) refl e
  where
    go : (t : Bool) → nat_lt (length bits) n ≡ t → ◌≡◌ {A = Option (ℕ × List Bool)} (cond t None (Some (number (take n bits), drop n bits))) (Some (v, rest)) → (n ≤ length bits) × (drop n bits ≡ rest)
    go true h e = cc
    go false h e = (ltb-false (length bits) n h, ap rest_in e)

-- fewer bits are there where none were taken
pub taken-none : (n : ℕ) (bits : List Bool) → take_bits n bits ≡ None → length bits < n
unfolding take_bits
taken-none n bits e = go (nat_lt (length bits) n) refl e
  where
    go : (t : Bool) → nat_lt (length bits) n ≡ t → ◌≡◌ {A = Option (ℕ × List Bool)} (cond t None (Some (number (take n bits), drop n bits))) None → length bits < n
    go true h e = ltb-true (length bits) n h
    go false h e = cc

-- a test that says whether n bits are there
pub none_left : (n : ℕ) (bits : List Bool) (there : Bool) → (n ≤ length bits → there ≡ true) → there ≡ false → take_bits n bits ≡ None
none_left n bits there e h = elim (cases_lt (length bits) n) [
  | inl few ↦ take-none n bits few
  | inr enough ↦ let yes : there ≡ true = e enough in cc
]

-- bits that are the digits of a number, and others behind them
pub take-of : (n v : ℕ) (bits rest : List Bool) → v < 2 ^ n → bits ≡ digits n v ++ rest → take_bits n bits ≡ Some (v, rest)
take-of n v bits rest h e = rw e (take-digits n v rest h)
