-- The numbers of an edit list (own): decimal digits without a leading zero but `0` itself, at most 2,147,483,647.
use Rattle.std.specs.Prelude.{ℕ, ◌+◌, ◌-◌, ◌*◌, Bool, List, length, Option, Some, None, ◌&&◌, ◌==◌, not, nat_lt, nat_le, slice_index, fold, if◌then◌else◌}
use Rattle.std.specs.List.{list_all}
use Rattle.std.specs.Char.{is_ascii_digit}

-- the number that decimal digits write
abbrev pub decimal : List ℕ → ℕ
decimal digits = fold (λ value digit. 10 * value + (digit - 48)) 0 digits

-- digits alone, at least one, and no zero before another
unfoldable pub is_numeral : List ℕ → Bool
is_numeral field = nat_lt 0 (length field) && not (nat_lt 1 (length field) && slice_index field 0 == 48) && list_all is_ascii_digit field

-- the number that a field says, where it says one
unfoldable pub number_of : List ℕ → Option ℕ
number_of field = if is_numeral field && nat_le (decimal field) 2147483647 then Some (decimal field) else None
