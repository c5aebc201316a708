-- Tokens: how many further bits each has, and what it says with them (Theora I, 7.7.1 and 7.7.2). token is a token's number, 0 to
-- 31, and extra its further bits as one number, the first the highest.
use Rattle.std.specs.Prelude.{ℕ, ◌+◌, ◌/◌, ◌%◌, ◌==◌, ℤ, pos, ◌-ℤ◌, List, [], ◌∷◌, get_or, if◌then◌else◌}

-- what a token says: an end-of-block run of so many blocks (0 says all that have not ended), so many zeros, or so many zeros and
-- a value
pub data Meaning : Type 0 where
  EndRun : ℕ → Meaning
  ZeroRun : ℕ → Meaning
  Value : ℕ → ℤ → Meaning

-- how many further bits each token has
abbrev pub widths : List ℕ
widths =
    0 ∷ 0 ∷ 0 ∷ 2 ∷ 3 ∷ 4 ∷ 12 ∷ 3 ∷ 6
    ∷ 0 ∷ 0 ∷ 0 ∷ 0 ∷ 1 ∷ 1 ∷ 1 ∷ 1 ∷ 2 ∷ 3 ∷ 4 ∷ 5 ∷ 6 ∷ 10
    ∷ 1 ∷ 1 ∷ 1 ∷ 1 ∷ 1 ∷ 3 ∷ 4 ∷ 2 ∷ 3 ∷ []

-- how many this one has
abbrev pub further_bits : ℕ → ℕ
further_bits token = get_or widths token 0

-- a number of this size; it is negative where the sign is 1
abbrev pub signed : ℕ → ℕ → ℤ
signed size sign = if sign == 1 then pos 0 -ℤ pos size else pos size

-- so many zeros, and then a value of this size and sign
abbrev pub valued : ℕ → ℕ → ℕ → Meaning
valued zeros size sign = Value zeros (signed size sign)

-- what the tokens say, where these are their further bits
abbrev pub meanings : ℕ → List Meaning
meanings extra =
    EndRun 1 ∷ EndRun 2 ∷ EndRun 3 ∷ EndRun (4 + extra) ∷ EndRun (8 + extra) ∷ EndRun (16 + extra) ∷ EndRun extra
    ∷ ZeroRun (1 + extra) ∷ ZeroRun (1 + extra)
    ∷ valued 0 1 0 ∷ valued 0 1 1 ∷ valued 0 2 0 ∷ valued 0 2 1
    ∷ valued 0 3 extra ∷ valued 0 4 extra ∷ valued 0 5 extra ∷ valued 0 6 extra
    ∷ valued 0 (7 + extra % 2) (extra / 2) ∷ valued 0 (9 + extra % 4) (extra / 4) ∷ valued 0 (13 + extra % 8) (extra / 8)
    ∷ valued 0 (21 + extra % 16) (extra / 16) ∷ valued 0 (37 + extra % 32) (extra / 32) ∷ valued 0 (69 + extra % 512) (extra / 512)
    ∷ valued 1 1 extra ∷ valued 2 1 extra ∷ valued 3 1 extra ∷ valued 4 1 extra ∷ valued 5 1 extra
    ∷ valued (6 + extra % 4) 1 (extra / 4) ∷ valued (10 + extra % 8) 1 (extra / 8)
    ∷ valued 1 (2 + extra % 2) (extra / 2) ∷ valued (2 + extra % 2) (2 + extra / 2 % 2) (extra / 4)
    ∷ []

-- what this one says
unfoldable pub meaning_of : ℕ → ℕ → Meaning
meaning_of token extra = get_or (meanings extra) token (EndRun 0)
