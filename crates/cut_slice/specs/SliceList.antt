-- An edit list of one slice of the first source (own): `oggcut 1`, a line feed, `slice 1 A B`, a line feed.
use Rattle.std.specs.Prelude.{ℕ, ◌+◌, ◌-◌, ◌*◌, Bool, List, [], ◌∷◌, length, take, drop, Option, Some, None, ◌&&◌, ◌||◌, ◌==◌, not, nat_lt, nat_le, codes, slice_index, fold, take_while, if◌then◌else◌}
use Rattle.std.specs.Str.{bytes_eq}
use Rattle.std.specs.Char.{is_ascii_digit}

-- frames `first` to `past` - 1 of the source
pub record Slice : Type 0 where
  pub first : ℕ
  pub past : ℕ

-- reading goes on where a part was found
infixl 10 ◌>>=◌
abbrev pub ◌>>=◌ : {A B : Type 0} → Option A → (A → Option B) → Option B
(Some found) >>= next = next found
None >>= next = None

-- the number that decimal digits write
abbrev pub decimal : List ℕ → ℕ
decimal digits = fold (λ value digit. 10 * value + (digit - 48)) 0 digits

-- digits without a leading zero but `0` itself, and not above 2,147,483,647
abbrev pub is_number : List ℕ → Bool
is_number digits = nat_lt 0 (length digits) && (length digits == 1 || not (slice_index digits 0 == 48)) && nat_le (decimal digits) 2147483647

-- the text behind these characters, where it begins with them
unfoldable pub behind : List ℕ → List ℕ → Option (List ℕ)
behind characters text = if bytes_eq (take (length characters) text) characters then Some (drop (length characters) text) else None

-- the number at the front of a text, and the text behind its last digit
unfoldable pub number_of : List ℕ → Option (ℕ × List ℕ)
number_of text =
    let digits = take_while is_ascii_digit text in
    if is_number digits then Some (decimal digits, drop (length digits) text) else None

-- the slice of a list of this form: its first number is below the second, and nothing stands behind the last line feed
unfoldable pub slice_of : List ℕ → Option Slice
slice_of text = do
  line ← behind (codes "oggcut 1") text
  item ← behind (10 ∷ codes "slice 1 ") line
  first ← number_of item
  between ← behind (codes " ") first.1
  past ← number_of between
  rest ← behind (10 ∷ []) past.1
  if length rest == 0 && nat_lt first.0 past.0 then Some (record { first = first.0; past = past.0 }) else None
