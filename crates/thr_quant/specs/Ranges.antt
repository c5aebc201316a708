-- Ranges of quantiser indices, for one kind of block in one plane (Theora I, 6.4.2).
-- n counts base matrices, left counts the steps from the index that was reached to the last index, 63.
use Rattle.std.specs.Prelude.{◌≡◌, ℕ, zero, suc, ◌+◌, ◌-◌, ◌<◌, ◌≤◌, ◌==◌, ◌&&◌, Bool, List, [], ◌∷◌, ◌++◌, Result, Ok, Err, sum_by, nat_lt, if◌then◌else◌}
use Rattle.std.specs.List.{All}
use Rattle.std.specs.Cmp.Lexicographic.{pointwise}
use Rattle.vid_base.specs.declared.fault.PacketFault.{PacketFault}
use Rattle.vid_base.specs.declared.fault.PacketFault.TheVariants.{MatrixIndex, Ramp}
use Rattle.vid_base.specs.Arithmetic.{bit_length}
use Rattle.vid_base.specs.Bits.{digits}
use Rattle.vid_base.specs.Reading.{field, ◌>>=◌}
use Rattle.thr_quant.specs.declared.ranges.Range.{Range}

-- the base matrix at index 0, and the ranges one behind the other, each with the base matrix at its end
pub record Ranges : Type 0 where
  pub start : ℕ
  pub list : List Range

-- each range takes a step at least, and together they lead from index 0 to 63
pub record AreWhole (list : List Range) : Type 0 where
  pub sizes : All (λ range. 0 < range.size) list
  pub sum : sum_by (λ range. range.size) list ≡ 63

-- so many base matrices there can be
abbrev pub IsMatrixCount : ℕ → Type 0
IsMatrixCount n = (0 < n) × (n ≤ 384)

-- each index names one of n base matrices
pub record NameMatrices (n : ℕ) (ranges : Ranges) : Type 0 where
  pub start : ranges.start < n
  pub next : All (λ range. range.next < n) ranges.list

-- the index of one of n base matrices
unfoldable pub matrix_index_of : ℕ → List Bool → Result (ℕ × List Bool) PacketFault
matrix_index_of n bits = do
  index ← field (bit_length (n - 1)) bits
  if nat_lt index.0 n then Ok index else Err MatrixIndex

-- a range: its size less 1, and the index of the base matrix at its end
unfoldable pub range_of : ℕ → ℕ → List Bool → Result (Range × List Bool) PacketFault
range_of n left bits = do
  size ← field (bit_length (left - 1)) bits
  next ← matrix_index_of n size.1
  if nat_lt left (size.0 + 1) then Err Ramp else Ok (record { size = size.0 + 1; next = next.0 }, next.1)

-- ranges until no step is left; there are at most so many, since each takes a step
unfoldable pub list_of : ℕ → ℕ → ℕ → List Bool → Result (List Range × List Bool) PacketFault
list_of most n zero bits = Ok ([], bits)
list_of zero n (suc left) bits = Err Ramp
list_of (suc most) n (suc left) bits = do
  first ← range_of n (suc left) bits
  others ← list_of most n (suc left - first.0.size) first.1
  Ok (first.0 ∷ others.0, others.1)

-- all ranges: the index of the base matrix at index 0, and ranges that together take 63 steps
unfoldable pub ranges_of : ℕ → List Bool → Result (Ranges × List Bool) PacketFault
ranges_of n bits = do
  start ← matrix_index_of n bits
  list ← list_of 63 n 63 start.1
  Ok (record { start = start.0; list = list.0 }, list.1)

-- whether two ranges are equal
abbrev pub same_range : Range → Range → Bool
same_range a b = a.size == b.size && a.next == b.next

-- whether all ranges and the base matrices at their ends are equal
abbrev pub same_ranges : Ranges → Ranges → Bool
same_ranges a b = a.start == b.start && pointwise same_range a.list b.list

-- a range as it is written where so many steps are left
unfoldable pub range_bits : ℕ → ℕ → Range → List Bool
range_bits n left range = digits (bit_length (left - 1)) (range.size - 1) ++ digits (bit_length (n - 1)) range.next

-- ranges as they are written where so many steps are left
unfoldable pub list_bits : ℕ → ℕ → List Range → List Bool
list_bits n left [] = []
list_bits n left (range ∷ list) = range_bits n left range ++ list_bits n (left - range.size) list

-- all ranges as they are written
unfoldable pub ranges_bits : ℕ → Ranges → List Bool
ranges_bits n ranges = digits (bit_length (n - 1)) ranges.start ++ list_bits n 63 ranges.list
