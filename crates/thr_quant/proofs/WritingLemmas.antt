-- What a writer has put so far: more digits, and what it leaves where memory is wanting. All writers cite these.
use Rattle.std.proofs.Common.{◌≡◌, ℕ, suc, ◌+◌, ◌-◌, ◌^◌, ◌<◌, ◌≤◌, Bool, List, [], ◌∷◌, ◌++◌, length, take, drop, get_or, sum_by, add-one, fold, max, All, ap, sym, ◌∙◌, arith, append_assoc, below_more}
use Rattle.std.proofs.Math.Seq.{drop-cons}
use Rattle.std.proofs.lemmas.List.{append-nil, get_or_default, drop_all, take_more, take_all}
use Rattle.std.proofs.lemmas.List.Elements.{All-head, All-tail}
use Rattle.std.proofs.lemmas.Nat.{pow_pos}
use Rattle.std.proofs.lemmas.List.Sums.{sum_by_more_le}
use Rattle.std.proofs.lemmas.Grind.{get_or_default_zero}
use Rattle.vid_base.specs.Arithmetic.{bit_length}
use Rattle.vid_base.specs.Bits.{digits}
use Rattle.vid_base.specs.Items.{all_digits}
use Rattle.thr_quant.specs.declared.ranges.Range.{Range}
use Rattle.thr_quant.specs.Limits.{width_of}
use Rattle.thr_quant.specs.Ramps.{matrix_list_bits}
use Rattle.thr_quant.specs.Ranges.{AreWhole, range_bits, list_bits}

-- the bits that were there stay in front of what is put
pub still_front : (before now later put : List Bool) → ((more : List Bool) × (now ≡ before ++ more)) → later ≡ now ++ put → (more : List Bool) × (later ≡ before ++ more)
still_front before now later put f e = (f.0 ++ put, e ∙ ap (λ bits. bits ++ put) f.1 ∙ append_assoc before f.0 put)

all_digits-snoc : (width v : ℕ) (xs : List ℕ) → all_digits width (xs ++ v ∷ []) ≡ all_digits width xs ++ digits width v
unfolding all_digits
all_digits-snoc width v [] = append-nil (digits width v)
all_digits-snoc width v (x ∷ xs) = ap (λ bits. digits width x ++ bits) (all_digits-snoc width v xs) ∙ sym (append_assoc (digits width x) (all_digits width xs) (digits width v))

-- one number more
pub put_step : (width i v : ℕ) (xs : List ℕ) (before now later : List Bool) → i < length xs → v ≡ get_or xs i 0
    → now ≡ before ++ all_digits width (take i xs) → later ≡ now ++ digits width v → later ≡ before ++ all_digits width (take (i + 1) xs)
put_step width i v xs before now later there is e f =
    f ∙ ap (λ bits. bits ++ digits width v) e
    ∙ append_assoc before (all_digits width (take i xs)) (digits width v)
    ∙ ap (λ bits. before ++ bits) (sym (all_digits-snoc width v (take i xs)))
    ∙ ap (λ front. before ++ all_digits width front) (ap (λ x. take i xs ++ x ∷ []) is ∙ sym (take_more xs i 0 there))

-- the width of the greatest number
pub width_is : (i greatest number : ℕ) (xs : List ℕ) → length xs ≤ i → number ≡ greatest → greatest ≡ fold max 0 (take i xs) → bit_length number ≡ width_of xs
unfolding width_of
width_is i greatest number xs full e f = ap bit_length (e ∙ f ∙ ap (fold max 0) (take_all i xs full))

-- all numbers have at most as many digits as the greatest
pub width_holds : (i greatest most : ℕ) (xs : List ℕ) → length xs ≤ i → greatest < most → ((k : ℕ) → k < i → get_or xs k 0 ≤ greatest) → All (λ v. v < most) xs
width_holds i greatest most xs full h bound = λ k d there. rw (get_or_default_zero xs k d there) (omega (arith, bound k (omega arith)))

pub greatest-lt : (most a : ℕ) (xs : List ℕ) → a < most → All (λ v. v < most) xs → fold max a xs < most
greatest-lt most a [] h small = h
greatest-lt most a (x ∷ xs) h small = greatest-lt most (max a x) xs (omega (arith, All-head (λ v. v < most) x xs small)) (All-tail (λ v. v < most) x xs small)

-- the greatest is below all that the numbers are below
pub width_most : (i greatest k : ℕ) (xs : List ℕ) → length xs ≤ i → greatest ≡ fold max 0 (take i xs) → All (λ v. v < 2 ^ k) xs → greatest < 2 ^ k
width_most i greatest k xs full e small =
    rw (e, take_all i xs full) (greatest-lt (2 ^ k) 0 xs (pow_pos k) small)

-- the ranges that are left stand behind those so far: one more
pub list_step : (n left i : ℕ) (list : List Range) (blank : Range) (before now later : List Bool) → i < length list
    → now ++ list_bits n left (drop i list) ≡ before → later ≡ now ++ range_bits n left (get_or list i blank)
    → later ++ list_bits n (left - (get_or list i blank).size) (drop (i + 1) list) ≡ before
unfolding list_bits
list_step n left i list blank before now later there e f =
    let all = rw (drop-cons list i blank) at e in
    rw (add-one, f) (append_assoc now (range_bits n left (get_or list i blank)) (list_bits n (left - (get_or list i blank).size) (drop (suc i) list)) ∙ all)

-- no more
pub list_end : (n left i : ℕ) (list : List Range) (before now : List Bool) → length list ≤ i → now ++ list_bits n left (drop i list) ≡ before → now ≡ before
unfolding list_bits
list_end n left i list before now full e = let none = rw (drop_all i list full) at e in sym (append-nil now) ∙ none

-- a range fits into the steps that are left
pub range_fits : (left i : ℕ) (list : List Range) (blank : Range) → i < length list → AreWhole list → left + sum_by (λ (range : Range). range.size) (take i list) ≡ 63
    → (0 < (get_or list i blank).size) × ((get_or list i blank).size ≤ left)
range_fits left i list blank there whole e =
    (whole.sizes i blank there, omega (arith, sum_by_more_le (λ (range : Range). range.size) list i blank there, whole.sum))

matrix_list_bits-snoc : (list : List (List ℕ)) (m : List ℕ) → matrix_list_bits (list ++ m ∷ []) ≡ matrix_list_bits list ++ all_digits 8 m
unfolding matrix_list_bits
matrix_list_bits-snoc [] m = append-nil (all_digits 8 m)
matrix_list_bits-snoc (x ∷ list) m = ap (λ bits. all_digits 8 x ++ bits) (matrix_list_bits-snoc list m) ∙ sym (append_assoc (all_digits 8 x) (matrix_list_bits list) (all_digits 8 m))

-- one base matrix more
pub matrix_step : (i : ℕ) (list : List (List ℕ)) (before now later : List Bool) → i < length list → now ≡ before ++ matrix_list_bits (take i list)
    → later ≡ now ++ all_digits 8 (get_or list i []) → later ≡ before ++ matrix_list_bits (take (i + 1) list)
matrix_step i list before now later there e f =
    rw (f, e, take_more list i [] there, matrix_list_bits-snoc (take i list) (get_or list i [])) (append_assoc before (matrix_list_bits (take i list)) (all_digits 8 (get_or list i [])))

-- what holds of the base matrices so far and of the next
pub each_step : (R : List ℕ → Type 0) (i : ℕ) (list : List (List ℕ)) → i < length list → ((k : ℕ) (blank : List ℕ) → k < i → R (get_or list k blank)) → R (get_or list i [])
    → (k : ℕ) (blank : List ℕ) → k < i + 1 → R (get_or list k blank)
each_step R i list there before here = λ k blank h.
    below_more (λ n. (d : List ℕ) → R (get_or list n d)) i (λ n less d. before n d less) (λ d. rw (get_or_default list i d [] there) here) k h blank
