-- A packet as the list of its bits, the most significant bit of each byte first (Theora I, 5.2).
-- n and k count bits, v is a number, b a byte or a bit.
use Rattle.std.specs.Prelude.{ℕ, zero, suc, ◌+◌, ◌-◌, ◌*◌, ◌/◌, ◌%◌, ◌^◌, Bool, true, false, List, [], ◌∷◌, ◌++◌, length, take, drop, Option, Some, None, ◌==◌, nat_lt, if◌then◌else◌}

-- the binary digit of v that counts 2 ^ k
abbrev pub bit_of : ℕ → ℕ → Bool
bit_of k v = v / 2 ^ k % 2 == 1

-- the bits of a byte
abbrev pub byte_bits : ℕ → List Bool
byte_bits b = bit_of 7 b ∷ bit_of 6 b ∷ bit_of 5 b ∷ bit_of 4 b ∷ bit_of 3 b ∷ bit_of 2 b ∷ bit_of 1 b ∷ bit_of 0 b ∷ []

-- the bits of bytes in order
unfoldable pub bits_of : List ℕ → List Bool
bits_of [] = []
bits_of (b ∷ bytes) = byte_bits b ++ bits_of bytes

-- the lowest n binary digits of v, the highest first
unfoldable pub digits : ℕ → ℕ → List Bool
digits zero v = []
digits (suc n) v = bit_of n v ∷ digits n v

-- n bits that are 0
unfoldable pub zeros : ℕ → List Bool
zeros zero = []
zeros (suc n) = false ∷ zeros n

-- what a bit counts where it stands alone
abbrev pub digit : Bool → ℕ
digit false = 0
digit true = 1

-- the number that v becomes when these binary digits are written behind it
unfoldable pub number_from : ℕ → List Bool → ℕ
number_from v [] = v
number_from v (b ∷ bits) = number_from (2 * v + digit b) bits

-- bits as a number, the first the highest
unfoldable pub number : List Bool → ℕ
number bits = number_from 0 bits

-- the number of the first n bits with the bits behind them, or None where fewer than n are there
unfoldable pub take_bits : ℕ → List Bool → Option (ℕ × List Bool)
take_bits n bits = if nat_lt (length bits) n then None else Some (number (take n bits), drop n bits)

-- the number alone
abbrev pub number_in : Option (ℕ × List Bool) → Option ℕ
number_in None = None
number_in (Some taken) = Some taken.0

-- how many bits are wanting to a whole byte after so many
abbrev pub to_byte : ℕ → ℕ
to_byte n = (8 - n % 8) % 8
