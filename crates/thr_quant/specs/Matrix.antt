-- The quantiser matrix of a quantiser index (Theora I, 6.4.3).
-- qti is 0 for intra and 1 for inter blocks, pli is 0, 1, 2 for the planes Y, Cb, Cr, qi is the quantiser index, and k a place of the matrix in natural order.
use Rattle.std.specs.Prelude.{ℕ, ◌+◌, ◌-◌, ◌*◌, ◌/◌, ◌==◌, ◌&&◌, nat_le, max, min, Bool, List, [], ◌∷◌, map, find, if◌then◌else◌, slice_index, slice_index_or}
use Rattle.std.specs.List.{range_with_len}
use Rattle.std.specs.Option.{option_map_or}
use Rattle.thr_quant.specs.declared.ranges.Range.{Range}
use Rattle.thr_quant.specs.declared.matrix.Stretch.{Stretch as Held}
use Rattle.thr_quant.specs.Ranges.{Ranges}
use Rattle.thr_quant.specs.Ramps.{Ramps}

-- a range where it stands: the quantiser indices at its ends, and the base matrices there
pub record Stretch : Type 0 where
  pub first : ℕ
  pub last : ℕ
  pub from : ℕ
  pub to : ℕ

-- the same as the code holds it
abbrev pub seen : Held → Stretch
seen held = record { first = held.first; last = held.last; from = held.from; to = held.to }

-- ranges where they stand, each with the quantiser indices and the base matrices at its ends: it begins where the one before ends
unfoldable pub stretches : ℕ → ℕ → List Range → List Stretch
stretches first from [] = []
stretches first from (range ∷ list) = record { first = first; last = first + range.size; from = from; to = range.next } ∷ stretches (first + range.size) range.next list

-- whether a quantiser index lies in a range, its ends among them
abbrev pub holds : ℕ → Stretch → Bool
holds qi stretch = nat_le stretch.first qi && nat_le qi stretch.last

-- the ranges of a kind of block in a plane
unfoldable pub ranges_at : Ramps → ℕ → ℕ → Ranges
ranges_at ramps qti pli = slice_index_or (if qti == 0 then ramps.intra else ramps.inter) pli (record { start = 0; list = [] })

-- the ranges of a kind of block in a plane, where they stand
unfoldable pub stretches_of : Ranges → List Stretch
stretches_of ranges = stretches 0 ranges.start ranges.list

-- the value between a at the range's first index and b at its last, to the nearest whole number
unfoldable pub between : Stretch → ℕ → ℕ → ℕ → ℕ
between stretch qi a b =
    (2 * (stretch.last - qi) * a + 2 * (qi - stretch.first) * b + (stretch.last - stretch.first)) / (2 * (stretch.last - stretch.first))

-- the value of the base matrix at a place
unfoldable pub base_at : Ramps → ℕ → Stretch → ℕ → ℕ
base_at ramps qi stretch k =
    between stretch qi (slice_index (slice_index_or ramps.matrices stretch.from []) k) (slice_index (slice_index_or ramps.matrices stretch.to []) k)

-- the scale of a place: the first place has that of DC
unfoldable pub scale_at : Ramps → ℕ → ℕ → ℕ
scale_at ramps qi k = slice_index (if k == 0 then ramps.dc else ramps.ac) qi

-- the least entry: 16 and 8 for DC and AC of intra blocks, twice that of inter blocks
abbrev pub least : ℕ → ℕ → ℕ
least qti k = if qti == 0 then (if k == 0 then 16 else 8) else (if k == 0 then 32 else 16)

-- a value scaled: four times as many hundredths of it, from the least entry to 4,096
unfoldable pub scaled : ℕ → ℕ → ℕ → ℕ
scaled hundredths value low = max low (min (hundredths * value / 100 * 4) 4096)

-- the entry at a place, at an index that a range holds
unfoldable pub entry_on : Ramps → ℕ → ℕ → Stretch → ℕ → ℕ
entry_on ramps qti qi stretch k = scaled (scale_at ramps qi k) (base_at ramps qi stretch k) (least qti k)

-- the matrix at an index that a range holds
unfoldable pub matrix_on : Ramps → ℕ → ℕ → Stretch → List ℕ
matrix_on ramps qti qi stretch = map (entry_on ramps qti qi stretch) (range_with_len 0 64)

-- the matrix at an index: that of the first range that holds it, and there is one
unfoldable pub matrix_at : Ramps → ℕ → ℕ → ℕ → List ℕ
matrix_at ramps qti pli qi = option_map_or (matrix_on ramps qti qi) (find (holds qi) (stretches_of (ranges_at ramps qti pli))) []
