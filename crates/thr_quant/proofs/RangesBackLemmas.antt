-- Ranges that were written are read, whatever bits follow; and so is each pair, as a copy or with ranges of its own. The writers of ranges cite these.
use Rattle.std.proofs.Common.{◌≡◌, ℕ, zero, suc, ◌+◌, ◌-◌, ◌^◌, ◌<◌, ◌≤◌, Bool, true, false, nat_eq, cond, List, [], ◌∷◌, ◌++◌, sum_by, All, Some, None, Ok, refl, sym, ◌∙◌, arith, append_assoc}
use Rattle.std.specs.Cmp.{first_so, second_so}
use Rattle.std.specs.Cmp.Lexicographic.{pointwise}
use Rattle.std.proofs.Math.Dec.{ltb}
use Rattle.std.proofs.lemmas.Bool.{lt-ltb, le-ltb, eqb-true}
use Rattle.std.proofs.lemmas.List.Sums.{sum_by-cons}
use Rattle.std.proofs.lemmas.List.Elements.{All-head, All-tail}
use Rattle.vid_base.specs.Arithmetic.{bit_length}
use Rattle.vid_base.specs.Bits.{digit, digits}
use Rattle.vid_base.specs.Reading.{field}
use Rattle.vid_base.proofs.DigitLemmas.{ap-two}
use Rattle.vid_base.proofs.ArithmeticLemmas.{length_above}
use Rattle.thr_quant.specs.declared.ranges.Range.{Range}
use Rattle.thr_quant.specs.Ranges.{Ranges, AreWhole, NameMatrices, matrix_index_of, range_of, list_of, ranges_of, range_bits, list_bits, ranges_bits, same_range, same_ranges}
use Rattle.thr_quant.specs.Ramps.{pair_of, copy_of, pair_bits}
use Rattle.thr_quant.proofs.ReadingBackLemmas.{field-digits}

-- a number below n has no more digits than n - 1
digits-fit : (n v : ℕ) → v < n → n ≤ 384 → v < 2 ^ bit_length (n - 1)
digits-fit n v h most = omega (arith, length_above (n - 1) (omega arith))

-- an index of a base matrix
pub matrix_index_of-digits : (n index : ℕ) (rest : List Bool) → index < n → n ≤ 384 → matrix_index_of n (digits (bit_length (n - 1)) index ++ rest) ≡ Ok (index, rest)
unfolding matrix_index_of
matrix_index_of-digits n index rest named most =
    let good : ltb index n ≡ true = lt-ltb index n named in
    rw (field-digits (bit_length (n - 1)) index rest (digits-fit n index named most), good) refl

-- a range
pub range_of-range_bits : (n left : ℕ) (range : Range) (rest : List Bool) → n ≤ 384 → left ≤ 63 → 0 < range.size → range.size ≤ left → range.next < n
    → range_of n left (range_bits n left range ++ rest) ≡ Ok (range, rest)
unfolding range_of range_bits
range_of-range_bits n left range rest most steps some fits named =
    let small : range.size - 1 < 2 ^ bit_length (left - 1) = digits-fit left (range.size - 1) (omega arith) (omega arith) in
    let back : range.size - 1 + 1 ≡ range.size = omega arith in
    let within : ltb left range.size ≡ false = le-ltb left range.size fits in
    rw (
      append_assoc (digits (bit_length (left - 1)) (range.size - 1)) (digits (bit_length (n - 1)) range.next) rest,
      field-digits (bit_length (left - 1)) (range.size - 1) (digits (bit_length (n - 1)) range.next ++ rest) small,
      matrix_index_of-digits n range.next rest named most,
      back,
      within,
    ) refl

-- ranges that together take the steps that are left
pub list_of-list_bits : (most n left : ℕ) (list : List Range) (rest : List Bool) → n ≤ 384 → left ≤ most → left ≤ 63
    → All (λ (range : Range). 0 < range.size) list → sum_by (λ (range : Range). range.size) list ≡ left → All (λ (range : Range). range.next < n) list
    → list_of most n left (list_bits n left list ++ rest) ≡ Ok (list, rest)
unfolding list_of list_bits
list_of-list_bits most n left [] rest few enough steps some sum named = rw (← sum) refl
list_of-list_bits most n zero (range ∷ list) rest few enough steps some sum named =
    absurd (omega (arith, sum, sum_by-cons (λ (r : Range). r.size) range list, All-head (λ (r : Range). 0 < r.size) range list some))
list_of-list_bits zero n (suc left) (range ∷ list) rest few enough steps some sum named = absurd (omega arith)
list_of-list_bits (suc most) n (suc left) (range ∷ list) rest few enough steps some sum named =
    let total : range.size + sum_by (λ (r : Range). r.size) list ≡ suc left = sym (sum_by-cons (λ (r : Range). r.size) range list) ∙ sum in
    let step : 0 < range.size = All-head (λ (r : Range). 0 < r.size) range list some in
    let first : range_of n (suc left) (range_bits n (suc left) range ++ (list_bits n (suc left - range.size) list ++ rest)) ≡ Ok (range, list_bits n (suc left - range.size) list ++ rest) =
    range_of-range_bits n (suc left) range (list_bits n (suc left - range.size) list ++ rest) few steps step (omega arith) (All-head (λ (r : Range). r.next < n) range list named) in
    let others : list_of most n (suc left - range.size) (list_bits n (suc left - range.size) list ++ rest) ≡ Ok (list, rest) =
    list_of-list_bits most n (suc left - range.size) list rest few (omega arith) (omega arith)
    (All-tail (λ (r : Range). 0 < r.size) range list some) (omega arith) (All-tail (λ (r : Range). r.next < n) range list named) in
    rw (append_assoc (range_bits n (suc left) range) (list_bits n (suc left - range.size) list) rest, first, others) refl

-- all ranges
pub ranges_of-ranges_bits : (n : ℕ) (ranges : Ranges) (rest : List Bool) → n ≤ 384 → AreWhole ranges.list → NameMatrices n ranges → ranges_of n (ranges_bits n ranges ++ rest) ≡ Ok (ranges, rest)
unfolding ranges_of ranges_bits
ranges_of-ranges_bits n ranges rest few whole named =
    rw (
      append_assoc (digits (bit_length (n - 1)) ranges.start) (list_bits n 63 ranges.list) rest,
      matrix_index_of-digits n ranges.start (list_bits n 63 ranges.list ++ rest) named.start few,
      list_of-list_bits 63 n 63 ranges.list rest few (omega arith) (omega arith) whole.sizes whole.sum named.next,
    ) refl

same_range-equal : (a b : Range) → same_range a b ≡ true → a ≡ b
same_range-equal a b e =
    let range : ℕ → ℕ → Range = λ size next. record { size = size; next = next } in
    ap-two range (eqb-true a.size b.size (first_so (nat_eq a.size b.size) (nat_eq a.next b.next) e)) (eqb-true a.next b.next (second_so (nat_eq a.size b.size) (nat_eq a.next b.next) e))

same_list-equal : (xs ys : List Range) → pointwise same_range xs ys ≡ true → xs ≡ ys
same_list-equal [] [] e = refl
same_list-equal [] (y ∷ ys) e = cc
same_list-equal (x ∷ xs) [] e = cc
same_list-equal (x ∷ xs) (y ∷ ys) e =
    ap-two (λ z zs. z ∷ zs) (same_range-equal x y (first_so (same_range x y) (pointwise same_range xs ys) e)) (same_list-equal xs ys (second_so (same_range x y) (pointwise same_range xs ys) e))

-- ranges that are the same are equal
pub same_ranges-equal : (a b : Ranges) → same_ranges a b ≡ true → a ≡ b
same_ranges-equal a b e =
    let ranges : ℕ → List Range → Ranges = λ start list. record { start = start; list = list } in
    ap-two ranges (eqb-true a.start b.start (first_so (nat_eq a.start b.start) (pointwise same_range a.list b.list) e))
    (same_list-equal a.list b.list (second_so (nat_eq a.start b.start) (pointwise same_range a.list b.list) e))

-- a bit
field-bit : (bit : Bool) (rest : List Bool) → field 1 (bit ∷ rest) ≡ Ok (digit bit, rest)
unfolding digits
field-bit true rest = field-digits 1 1 rest (omega arith)
field-bit false rest = field-digits 1 0 rest (omega arith)

-- a pair of intra blocks
pub pair_of-intra : (n : ℕ) (before own : Ranges) (rest : List Bool) → (same_ranges own before ≡ false → (after : List Bool) → ranges_of n (ranges_bits n own ++ after) ≡ Ok (own, after))
    → pair_of n before None (pair_bits n before None own ++ rest) ≡ Ok (own, rest)
unfolding pair_of pair_bits copy_of
pair_of-intra n before own rest back = go (same_ranges own before) refl
  where
    go : (t : Bool) → same_ranges own before ≡ t → pair_of n before None (cond t (false ∷ []) (true ∷ ranges_bits n own) ++ rest) ≡ Ok (own, rest)
    go true e = rw (field-bit false rest, same_ranges-equal own before e) refl
    go false e = rw (field-bit true (ranges_bits n own ++ rest)) (back e rest)

-- a pair of inter blocks
pub pair_of-inter : (n : ℕ) (before intra own : Ranges) (rest : List Bool) → (same_ranges own intra ≡ false → same_ranges own before ≡ false → (after : List Bool) → ranges_of n (ranges_bits n own ++ after) ≡ Ok (own, after))
    → pair_of n before (Some intra) (pair_bits n before (Some intra) own ++ rest) ≡ Ok (own, rest)
unfolding pair_of pair_bits copy_of
pair_of-inter n before intra own rest back = go (same_ranges own intra) refl (same_ranges own before) refl
  where
    go : (s : Bool) → same_ranges own intra ≡ s → (t : Bool) → same_ranges own before ≡ t
        → pair_of n before (Some intra) (cond s (false ∷ true ∷ []) (cond t (false ∷ false ∷ []) (true ∷ ranges_bits n own)) ++ rest) ≡ Ok (own, rest)
    go true d t e = rw (field-bit false (true ∷ rest), field-bit true rest, same_ranges-equal own intra d) refl
    go false d true e = rw (field-bit false (false ∷ rest), field-bit false rest, same_ranges-equal own before e) refl
    go false d false e = rw (field-bit true (ranges_bits n own ++ rest)) (back d e rest)
