-- The range of a list (own): each slice names a source, ends within its frames, and all slices together have at most 2^24
-- frames. `counts` are the frames of the sources, and `listed` the frames that the slices before have.
use Rattle.std.specs.Prelude.{ℕ, ◌+◌, ◌-◌, Bool, List, [], ◌∷◌, length, Option, Some, None, ◌&&◌, nat_le, slice_index, if◌then◌else◌}
use Rattle.cut_list.specs.Slices.{Slice, Slices}

-- whether a slice is in range
abbrev pub is_inside : List ℕ → ℕ → Slice → Bool
is_inside counts listed slice =
    nat_le 1 slice.src && nat_le slice.src (length counts) && nat_le slice.past (slice_index counts (slice.src - 1))
    && nat_le (listed + (slice.past - slice.first)) 16777216

-- the line of the first slice that is not
unfoldable pub first_outside : List ℕ → ℕ → Slices → Option ℕ
first_outside counts listed [] = None
first_outside counts listed (slice ∷ slices) =
    if is_inside counts listed slice then first_outside counts (listed + (slice.past - slice.first)) slices else Some slice.line
