-- The slices of an edit list (own): frames `first` to `past` - 1 of source `src`, as line `line` says. Lines and sources count
-- from 1, frames from 0.
use Rattle.std.specs.Prelude.{ℕ, List, map, Result, Ok, Err}
use Rattle.cut_list.specs.declared.list.Slice.{Slice as SliceStruct}

pub record Slice : Type 0 where
  pub line : ℕ
  pub src : ℕ
  pub first : ℕ
  pub past : ℕ

abbrev pub Slices : Type 0
Slices = List Slice

abbrev pub Bytes : Type 0
Bytes = List ℕ

abbrev pub ProgramSlices : Type 0
ProgramSlices = List SliceStruct

-- what a clause sees of a slice
abbrev pub slice_view : SliceStruct → Slice
slice_view s = record { line = s.line; src = s.src; first = s.first; past = s.past }

-- what a clause sees of a list
abbrev pub slices_view : List SliceStruct → Slices
slices_view slices = map slice_view slices

-- what a clause sees of a value that was read
abbrev pub seen : {A B E : Type 0} → (A → B) → Result A E → Result B E
seen view (Ok value) = Ok (view value)
seen view (Err why) = Err why
