-- The checksum of a page: the remainder of a long division of polynomials over bits (RFC 3533, 6).
-- A polynomial is the list of its coefficients, the highest power first; n counts steps.
use Rattle.std.specs.Prelude.{◌≡◌, ℕ, zero, suc, ◌*◌, ◌≤◌, Bool, true, false, not, List, [], ◌∷◌, ◌++◌, length, take, drop, if◌then◌else◌}
use Rattle.vid_base.specs.Bits.{bits_of, digits, number, zeros}

-- the sum of two coefficients
abbrev pub xor_bit : Bool → Bool → Bool
xor_bit false b = b
xor_bit true b = not b

-- the sum of two polynomials whose highest powers stand together
unfoldable pub sum_of : List Bool → List Bool → List Bool
sum_of [] ys = ys
sum_of (x ∷ xs) [] = x ∷ xs
sum_of (x ∷ xs) (y ∷ ys) = xor_bit x y ∷ sum_of xs ys

-- the generator polynomial 0x04C11DB7, without its highest power x ^ 32
unfoldable pub divisor : List Bool
divisor = digits 32 0x04C1_1DB7

-- n steps of the long division: the highest power goes, and where it was there the divisor is taken from what follows
unfoldable pub divide : ℕ → List Bool → List Bool
divide zero bits = bits
divide (suc n) [] = []
divide (suc n) (b ∷ bits) = divide n (if b then sum_of divisor bits else bits)

-- what is left when these bits times x ^ 32 are divided
unfoldable pub remainder : List Bool → List Bool
remainder bits = divide (length bits) (bits ++ zeros 32)

-- a division that stood at the remainder `before` stands at `after` behind these bytes, whatever bits follow them
abbrev pub GoesOn : ℕ → List ℕ → ℕ → Type 0
GoesOn before bytes after = (rest : List Bool) → 32 ≤ length rest
    → divide (8 * length bytes) (sum_of (digits 32 before) (bits_of bytes ++ rest)) ≡ sum_of (digits 32 after) rest

-- n bytes that are 0
unfoldable pub zero_bytes : ℕ → List ℕ
zero_bytes zero = []
zero_bytes (suc n) = 0 ∷ zero_bytes n

-- a page with its checksum field taken as 0
abbrev pub blanked : List ℕ → List ℕ
blanked page = take 22 page ++ (0 ∷ 0 ∷ 0 ∷ 0 ∷ []) ++ drop 26 page

-- the checksum of a page
unfoldable pub checksum_of : List ℕ → ℕ
checksum_of page = number (remainder (bits_of (blanked page)))
