-- Numbers of an edit list, and how long a list of one slice can be. The reader of numbers and the command cite these.
use Rattle.std.proofs.Common.{◌≡◌, ℕ, zero, suc, ◌+◌, ◌-◌, ◌*◌, ◌^◌, ◌<◌, ◌≤◌, Bool, true, false, List, [], ◌∷◌, length, take, drop, get_or, cond, inl, inr, ◌⊎◌, Option, Some, None, refl, ap, sym, ◌∙◌, arith, drop-cons, length-drop, leb-true}
use Rattle.std.specs.Prelude.{fold, nat_le, nat_lt, codes, take_while, not, ◌==◌, ◌&&◌, ◌||◌}
use Rattle.std.specs.Option.{option_map_or}
use Rattle.std.specs.Str.{bytes_eq}
use Rattle.std.specs.Char.{is_ascii_digit}
use Rattle.std.proofs.lemmas.List.Sums.{take_while-cons}
use Rattle.std.proofs.lemmas.Bool.{lt-leb, and_parts, cases_lt, eqb-true, or_cases}
use Rattle.cut_slice.specs.SliceList.{◌>>=◌, Slice, behind, decimal, is_number, number_of, slice_of}

-- further digits make a number no smaller
grows : (v : ℕ) (digits : List ℕ) → v ≤ fold (λ value digit. 10 * value + (digit - 48)) v digits
grows v [] = omega arith
grows v (d ∷ digits) = omega (arith, grows (10 * v + (d - 48)) digits)

-- a number that is too great after some digits is too great
pub too_great : (v i d : ℕ) (digits : List ℕ) → i < length digits → fold (λ value digit. 10 * value + (digit - 48)) v (drop i digits) ≡ decimal digits → d ≡ get_or digits i 0
    → 2147483647 < 10 * v + (d - 48) → nat_le (decimal digits) 2147483647 ≡ false
too_great v i d digits h e f over =
    let split : drop i digits ≡ d ∷ drop (suc i) digits = drop-cons digits i 0 h ∙ ap (λ x. x ∷ drop (suc i) digits) (sym f) in
    let rest = rw split at e in
    lt-leb (decimal digits) 2147483647 (omega (arith, grows (10 * v + (d - 48)) (drop (suc i) digits), rest))

-- each digit behind a number that is not 0 makes it at least twice as great
doubles : (n k v : ℕ) (digits : List ℕ) → n ≤ length digits → 2 ^ k ≤ v → 2 ^ (k + n) ≤ fold (λ value digit. 10 * value + (digit - 48)) v digits
doubles zero k v digits h e = rw (add-zero k) (omega (arith, e, grows v digits))
  where
    add-zero : (k : ℕ) → k + 0 ≡ k
    add-zero k = omega arith
doubles (suc n) k v [] h e = absurd (omega (arith, h))
doubles (suc n) k v (d ∷ digits) h e =
    let more : 2 ^ suc k ≤ 10 * v + (d - 48) = omega (arith, e) in
    let same : suc k + n ≡ k + suc n = omega arith in
    rw same at (doubles n (suc k) (10 * v + (d - 48)) digits (omega (arith, h)) more)

-- reading that went on found the part before
bound : {A B : Type 0} (part : Option A) (next : A → Option B) (all : B) → (part >>= next) ≡ Some all → (found : A) × (part ≡ Some found) × (next found ≡ Some all)
bound None next all h = cc
bound (Some found) next all h = (found, refl, h)

-- digits that do not begin with 0 are at most 31, for each behind the first makes the number twice as great
few : (c : ℕ) (digits : List ℕ) → is_ascii_digit c ≡ true → is_number (c ∷ digits) ≡ true → length (c ∷ digits) ≤ 31
few c [] digit h = omega arith
few c (d ∷ digits) digit h =
    let low : 48 ≤ c = leb-true 48 c (and_parts _ _ digit).0 in
    let parts = and_parts _ _ h in
    let most : decimal (c ∷ d ∷ digits) ≤ 2147483647 = leb-true (decimal (c ∷ d ∷ digits)) 2147483647 parts.1 in
    let first : 2 ^ 0 ≤ 10 * 0 + (c - 48) = above c (length (c ∷ d ∷ digits)) low (omega arith) (and_parts _ _ parts.0).1 in
    let power : 2 ^ (0 + 31) ≡ 2147483648 = refl in
    few_more (cases_lt 30 (length (d ∷ digits))) (λ long. omega (arith, doubles 31 0 (10 * 0 + (c - 48)) (d ∷ digits) long first, power, most))
  where
    above : (c size : ℕ) → 48 ≤ c → 2 ≤ size → (size == 1 || not (c == 48)) ≡ true → 2 ^ 0 ≤ 10 * 0 + (c - 48)
    above c size low two h = elim (or_cases (size == 1) (not (c == 48)) h) [
      | inl one ↦ absurd (omega (arith, two, eqb-true size 1 one))
      | inr other ↦ elim (cases_lt 48 c) [
        | inl more ↦ omega (arith, more)
        | inr least ↦ let same : c ≡ 48 = omega (arith, low, least) in let none : not (48 == 48) ≡ true = rw same at other in cc
      ]
    ]

    few_more : (30 < length (d ∷ digits)) ⊎ (length (d ∷ digits) ≤ 30) → (30 < length (d ∷ digits) → ⊥) → length (c ∷ d ∷ digits) ≤ 31
    few_more (inl long) none = absurd (none long)
    few_more (inr short) none = omega (arith, short)

-- the digits of a number at the front of a text
few_digits : (text : List ℕ) → is_number (take_while is_ascii_digit text) ≡ true → length (take_while is_ascii_digit text) ≤ 31
few_digits [] h = omega arith
few_digits (c ∷ text) h = rw take_while-cons (go (is_ascii_digit c) refl (rw (take_while-cons is_ascii_digit c text) at h))
  where
    go : (digit : Bool) → is_ascii_digit c ≡ digit → is_number (cond digit (c ∷ take_while is_ascii_digit text) []) ≡ true → length (cond digit (c ∷ take_while is_ascii_digit text) []) ≤ 31
    go false e h = omega arith
    go true e h = few c (take_while is_ascii_digit text) e h

-- a number at the front of a text takes at most 31 bytes of it
number_size : (text rest : List ℕ) (value : ℕ) → number_of text ≡ Some (value, rest) → length text ≤ 31 + length rest
unfolding number_of
number_size text rest value h = go (is_number (take_while is_ascii_digit text)) refl h
  where
    go : (is : Bool) → is_number (take_while is_ascii_digit text) ≡ is → cond {A = Option (ℕ × List ℕ)} is (Some (decimal (take_while is_ascii_digit text), drop (length (take_while is_ascii_digit text)) text)) None ≡ Some (value, rest) → length text ≤ 31 + length rest
    go false e h = cc
    go true e h =
        let left : drop (length (take_while is_ascii_digit text)) text ≡ rest = ap {A = Option (ℕ × List ℕ)} (λ found. option_map_or (λ number. number.1) found []) h in
        omega (arith, few_digits text e, length-drop (length (take_while is_ascii_digit text)) text, ap length left)

-- what stands behind characters is shorter by them at most
behind_size : (characters text rest : List ℕ) → behind characters text ≡ Some rest → length text ≤ length characters + length rest
unfolding behind
behind_size characters text rest h = go (bytes_eq (take (length characters) text) characters) h
  where
    go : (is : Bool) → cond is (Some (drop (length characters) text)) None ≡ Some rest → length text ≤ length characters + length rest
    go false h = cc
    go true h =
        let left : drop (length characters) text ≡ rest = cc in
        omega (arith, length-drop (length characters) text, ap length left)

-- nothing stands behind the last line feed
ends : (n : ℕ) (less : Bool) (found slice : Slice) → cond (n == 0 && less) (Some found) None ≡ Some slice → n ≡ 0
ends n less found slice h = eqb-true n 0 (and_parts _ _ (holds (n == 0 && less) h)).0
  where
    holds : (b : Bool) → cond b (Some found) None ≡ Some slice → b ≡ true
    holds true h = refl
    holds false h = cc

-- a list of one slice is short
slice_size : (text : List ℕ) (slice : Slice) → slice_of text ≡ Some slice → length text ≤ 90
unfolding slice_of
slice_size text slice h =
    let line = bound _ _ slice h in
    let item = bound _ _ slice line.2 in
    let first = bound _ _ slice item.2 in
    let between = bound _ _ slice first.2 in
    let past = bound _ _ slice between.2 in
    let rest = bound _ _ slice past.2 in
    let none : length rest.0 ≡ 0 = ends (length rest.0) (nat_lt first.0.0 past.0.0) _ slice rest.2 in
    omega (
      arith,
      behind_size (codes "oggcut 1") text line.0 line.1,
      behind_size (10 ∷ codes "slice 1 ") line.0 item.0 item.1,
      number_size item.0 first.0.1 first.0.0 first.1,
      behind_size (codes " ") first.0.1 between.0 between.1,
      number_size between.0 past.0.1 past.0.0 past.1,
      behind_size (10 ∷ []) past.0.1 rest.0 rest.1,
      none,
    )

-- so one that is too long is of no form
pub long_no_slice : (text : List ℕ) → 90 < length text → slice_of text ≡ None
long_no_slice text h = go (slice_of text) refl
  where
    go : (found : Option Slice) → slice_of text ≡ found → slice_of text ≡ None
    go None e = e
    go (Some slice) e = absurd (omega (arith, h, slice_size text slice e))
