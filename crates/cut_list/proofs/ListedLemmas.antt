-- Every text that is a list says slices in their limits, on lines that rise. The law of lists cites this.
use Rattle.std.proofs.Common.{◌≡◌, ℕ, zero, suc, ◌+◌, ◌<◌, ◌≤◌, Bool, true, false, cond, List, [], ◌∷◌, length, Option, Some, None, Result, Ok, Err, refl, sym, ap, ◌∙◌, arith, ltb, leb-true, leb}
use Rattle.std.specs.Prelude.{nat_le, nat_lt, codes, if◌then◌else◌, ◌&&◌}
use Rattle.std.specs.Option.{ok_or}
use Rattle.std.specs.Str.{bytes_eq}
use Rattle.std.proofs.lemmas.Bool.{and_parts, cases_lt, ltb-true}
use Rattle.cut_list.specs.EditList.{BadLine, bad_from, first_bad, is_head, line_of, lines_of, list_of, list_or_bad, says_nothing, slice_before, slices_from, slices_in}
use Rattle.cut_list.specs.Items.{◌>>=◌, fields_of, item_of, slice_of}
use Rattle.cut_list.specs.Listed.{AreSlices, IsSlice}
use Rattle.cut_list.specs.Numbers.{decimal, is_numeral, number_of}
use Rattle.cut_list.specs.Slices.{Slice, Slices}
use Rattle.cut_list.specs.declared.fault.Why.{Why}
use Rattle.cut_list.specs.declared.fault.Why.TheVariants.{EmptySlice, Number, TooMany, Word}

-- a number is in its limit
Small : Option ℕ → Type 0
Small None = Unit {0}
Small (Some v) = v ≤ 2147483647

number_of-small : (field : List ℕ) → Small (number_of field)
unfolding number_of Small
number_of-small field = small (is_numeral field && nat_le (decimal field) 2147483647) refl
  where
    small : (b : Bool) → is_numeral field && nat_le (decimal field) 2147483647 ≡ b → Small (if b then Some (decimal field) else None)
    small false e = tt
    small true e = leb-true (decimal field) 2147483647 (and_parts _ _ e).1

-- what was read is a slice of line n, or nothing
Right : ℕ → Result Slice Why → Type 0
Right n (Err why) = Unit {0}
Right n (Ok slice) = (slice.line ≡ n) × (slice.src ≤ 2147483647) × (slice.past ≤ 2147483647) × (slice.first < slice.past)

slice_of-right : (n : ℕ) (k a b : Option ℕ) → Small k → Small a → Small b → Right n (slice_of n k a b)
unfolding slice_of Small Right
slice_of-right n None a b k-small a-small b-small = tt
slice_of-right n (Some k) None b k-small a-small b-small = tt
slice_of-right n (Some k) (Some a) None k-small a-small b-small = tt
slice_of-right n (Some k) (Some a) (Some b) k-small a-small b-small = right (nat_lt a b) refl
  where
    right : (t : Bool) → nat_lt a b ≡ t → Right n (if t then Ok (record { line = n; src = k; first = a; past = b }) else Err EmptySlice)
    right false e = tt
    right true e = (refl, k-small, b-small, ltb-true a b e)

item_of-right : (n : ℕ) (fields : List (List ℕ)) → Right n (item_of n fields)
unfolding item_of Right
item_of-right n [] = tt
item_of-right n (word ∷ []) = tt
item_of-right n (word ∷ k ∷ []) = tt
item_of-right n (word ∷ k ∷ a ∷ []) = tt
item_of-right n (word ∷ k ∷ a ∷ b ∷ []) = right (bytes_eq word (codes "slice"))
  where
    right : (t : Bool) → Right n (if t then slice_of n (number_of k) (number_of a) (number_of b) else Err Word)
    right false = tt
    right true = slice_of-right n (number_of k) (number_of a) (number_of b) (number_of-small k) (number_of-small a) (number_of-small b)
item_of-right n (word ∷ k ∷ a ∷ b ∷ c ∷ fields) = tt

-- slices from a later line on are slices from an earlier one on
AreSlices-from : (n m : ℕ) (slices : Slices) → n ≤ m → AreSlices m slices → AreSlices n slices
AreSlices-from n m [] h all = tt
AreSlices-from n m (slice ∷ slices) h all = (omega (arith, h, all.0), all.1, all.2)

slices_from-listed : (n : ℕ) (lines : List (List ℕ)) → AreSlices n (slices_from n lines)
unfolding line_of Right
slices_from-listed n [] = tt
slices_from-listed n (line ∷ lines) = listed (slices_from (n + 1) lines) (slices_from-listed (n + 1) lines)
  where
    before : (later : Slices) → AreSlices (n + 1) later → n ≤ 10000 → (read : Result Slice Why) → Right n read → AreSlices n (slice_before (read >>= λ slice. Ok (Some slice)) later)
    before later all few (Err why) right = tt
    before later all few (Ok slice) right =
        (omega (arith, right.0), record { line = omega (arith, right.0, few); src = right.1; past = right.2; ordered = right.3 }, rw right.0 all)

    some : (later : Slices) → AreSlices (n + 1) later → n ≤ 10000 → (nothing : Bool)
        → AreSlices n (slice_before (if nothing then Ok None else (item_of n (fields_of line) >>= λ slice. Ok (Some slice))) later)
    some later all few true = AreSlices-from n (n + 1) later (omega arith) all
    some later all few false = before later all few (item_of n (fields_of line)) (item_of-right n (fields_of line))

    within : (later : Slices) → AreSlices (n + 1) later → (many : Bool) → nat_lt 10000 n ≡ many
        → AreSlices n (slice_before (if many then Err TooMany else if says_nothing line then Ok None else (item_of n (fields_of line) >>= λ slice. Ok (Some slice))) later)
    within later all true e = tt
    within later all false e = some later all (grind arith) (says_nothing line)

    listed : (later : Slices) → AreSlices (n + 1) later → AreSlices n (slice_before (line_of n line) later)
    listed later all = within later all (nat_lt 10000 n) refl

slices_in-listed : (lines : List (List ℕ)) → AreSlices 2 (slices_in lines)
unfolding slices_in
slices_in-listed [] = tt
slices_in-listed (line ∷ lines) = listed (is_head line)
  where
    listed : (b : Bool) → AreSlices 2 (if b then slices_from 2 lines else [])
    listed true = slices_from-listed 2 lines
    listed false = tt

list_or_bad-listed : (n : ℕ) (bad : Option BadLine) (read slices : Slices) → list_or_bad n bad read ≡ Ok slices → AreSlices 2 read → (0 < length slices) × AreSlices 2 slices
list_or_bad-listed n (Some bad) read slices e all = cc
list_or_bad-listed n None [] slices e all = cc
list_or_bad-listed n None (slice ∷ read) slices e all = let same : slice ∷ read ≡ slices = cc in rw (← same) (omega arith, all)

pub list_of-listed : (text : List ℕ) (slices : Slices) → list_of text ≡ Ok slices → (0 < length slices) × AreSlices 2 slices
unfolding list_of
list_of-listed text slices e = list_or_bad-listed (length (lines_of text) + 1) (first_bad (lines_of text)) (slices_in (lines_of text)) slices e (slices_in-listed (lines_of text))
