-- Where a text is cut (own): the place of the first byte of a kind, and the parts round each of them.
use Rattle.std.specs.Prelude.{ℕ, List, Option, ◌==◌}
use Rattle.std.specs.List.{position_from, slice_split}

-- where that byte first stands
abbrev pub first_place : ℕ → List ℕ → Option ℕ
first_place wanted bytes = position_from (λ c. c == wanted) 0 bytes

-- the parts round each such byte; a text without one is one part
abbrev pub parts_of : ℕ → List ℕ → List (List ℕ)
parts_of separator text = slice_split (λ c. c == separator) text
