-- The numbers of a head (own): one or more decimal digits, with leading zeros or without.
use Rattle.std.specs.Prelude.{ℕ, ◌+◌, ◌-◌, ◌*◌, ◌^◌, List, [], ◌∷◌, length, min, Option, Some, None, ◌&&◌, nat_lt, nat_le, fold, if◌then◌else◌}
use Rattle.std.specs.List.{list_all}
use Rattle.std.specs.Char.{is_ascii_digit}
use Rattle.y4m_io.specs.Places.{parts_of}

-- the number that digits write
abbrev pub value_of : List ℕ → ℕ
value_of digits = fold (λ value digit. 10 * value + (digit - 48)) 0 digits

-- the number that a text writes. None of a head's may be as great as 2^32, and all from there on count as that
unfoldable pub number_of : List ℕ → Option ℕ
number_of text = if nat_lt 0 (length text) && list_all is_ascii_digit text then Some (min (value_of text) (2 ^ 32)) else None

-- one from least to most
unfoldable pub number_within : ℕ → ℕ → Option ℕ → Option ℕ
number_within least most None = None
number_within least most (Some n) = if nat_le least n && nat_le n most then Some n else None

abbrev pub pair_of : Option ℕ → Option ℕ → Option (ℕ × ℕ)
pair_of (Some n) (Some d) = Some (n, d)
pair_of _ _ = None

-- two such numbers with a colon between
abbrev pub ratio_in : ℕ → ℕ → List (List ℕ) → Option (ℕ × ℕ)
ratio_in least most (n ∷ d ∷ []) = pair_of (number_within least most (number_of n)) (number_within least most (number_of d))
ratio_in least most _ = None

abbrev pub ratio_of : ℕ → ℕ → List ℕ → Option (ℕ × ℕ)
ratio_of least most text = ratio_in least most (parts_of 58 text)
