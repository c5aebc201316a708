-- The items of an edit list (own): `slice`, K, A and B with one space between are frames A to B - 1 of source K.
use Rattle.std.specs.Prelude.{ℕ, List, [], ◌∷◌, Result, Ok, Err, Option, ◌==◌, nat_lt, codes, if◌then◌else◌}
use Rattle.std.specs.List.{slice_split}
use Rattle.std.specs.Option.{ok_or}
use Rattle.std.specs.Str.{bytes_eq}
use Rattle.cut_list.specs.Numbers.{number_of}
use Rattle.cut_list.specs.Slices.{Slice}
use Rattle.cut_list.specs.declared.fault.Why.{Why}
use Rattle.cut_list.specs.declared.fault.Why.TheVariants.{Word, Number, EmptySlice}

-- the fields of a line: its parts round each space
abbrev pub fields_of : List ℕ → List (List ℕ)
fields_of line = slice_split (λ c. c == 32) line

-- reading goes on with what was read, and stops at the first why
infixl 10 ◌>>=◌
abbrev pub ◌>>=◌ : {A B : Type 0} → Result A Why → (A → Result B Why) → Result B Why
(Ok a) >>= next = next a
(Err why) >>= next = Err why

-- the slice of line n that three fields say
unfoldable pub slice_of : ℕ → Option ℕ → Option ℕ → Option ℕ → Result Slice Why
slice_of n k a b = do
  src ← ok_or k Number
  first ← ok_or a Number
  past ← ok_or b Number
  if nat_lt first past then Ok (record { line = n; src = src; first = first; past = past }) else Err EmptySlice

-- the slice of line n that is an item of these fields
unfoldable pub item_of : ℕ → List (List ℕ) → Result Slice Why
item_of n (word ∷ k ∷ a ∷ b ∷ []) = if bytes_eq word (codes "slice") then slice_of n (number_of k) (number_of a) (number_of b) else Err Word
item_of n _ = Err Word
