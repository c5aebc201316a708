-- The limits of the loop filter, a number below 128 for each quantiser index (Theora I, 6.4.1).
use Rattle.std.specs.Prelude.{◌≡◌, ℕ, ◌<◌, max, Bool, List, ◌++◌, length, fold, Result}
use Rattle.std.specs.List.{All}
use Rattle.vid_base.specs.declared.fault.PacketFault.{PacketFault}
use Rattle.vid_base.specs.Arithmetic.{bit_length}
use Rattle.vid_base.specs.Bits.{digits}
use Rattle.vid_base.specs.Items.{items, all_digits}
use Rattle.vid_base.specs.Reading.{field, ◌>>=◌}

-- numbers of 7 bits at most
abbrev pub AreLimits : List ℕ → Type 0
AreLimits numbers = All (λ v. v < 128) numbers

-- limits that a setup header can say: one for each quantiser index
pub record IsLimits (numbers : List ℕ) : Type 0 where
  pub count : length numbers ≡ 64
  pub small : AreLimits numbers

-- the least width in bits that holds each of these numbers: 0 where all are 0
unfoldable pub width_of : List ℕ → ℕ
width_of numbers = bit_length (fold max 0 numbers)

-- NBITS in 3 bits, and 64 limits of so many bits
unfoldable pub limits_of : List Bool → Result (List ℕ × List Bool) PacketFault
limits_of bits = do
  width ← field 3 bits
  items (field width.0) 64 width.1

-- limits as they are written: in the least width
unfoldable pub limits_bits : List ℕ → List Bool
limits_bits numbers = digits 3 (width_of numbers) ++ all_digits (width_of numbers) numbers
