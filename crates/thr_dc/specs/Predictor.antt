-- The DC predictor from the blocks around a block (Theora I, 7.8.1). The letters stand for the DC values to the left (l), to
-- the lower left (dl), below (d) and to the lower right (dr), each where it counts.
use Rattle.std.specs.Prelude.{ℤ, pos, ◌+ℤ◌, ◌-ℤ◌, ◌*ℤ◌, Bool, Option, Some, None, nat_lt, if◌then◌else◌}
use Rattle.std.specs.Int.RustNames.{int_div, unsigned_abs}

-- whether two values are more than 128 apart
unfoldable pub far : ℤ → ℤ → Bool
far a b = nat_lt 128 (unsigned_abs (a -ℤ b))

-- how the values go on from three neighbours; where that leads far off, the first of d, l and dl that it is far from
unfoldable pub extended : ℤ → ℤ → ℤ → ℤ
extended l dl d =
    let p = int_div (pos 29 *ℤ l -ℤ pos 26 *ℤ dl +ℤ pos 29 *ℤ d) (pos 32) in
    if far p d then d else if far p l then l else if far p dl then dl else p

-- the predictor, if a neighbour counts
abbrev pub from_neighbours : Option ℤ → Option ℤ → Option ℤ → Option ℤ → Option ℤ
from_neighbours None None None None = None
from_neighbours None None None (Some dr) = Some dr
from_neighbours None None (Some d) None = Some d
from_neighbours None None (Some d) (Some dr) = Some d
from_neighbours None (Some dl) None None = Some dl
from_neighbours None (Some dl) None (Some dr) = Some (int_div (dl +ℤ dr) (pos 2))
from_neighbours None (Some dl) (Some d) None = Some d
from_neighbours None (Some dl) (Some d) (Some dr) = Some (int_div (pos 3 *ℤ dl +ℤ pos 10 *ℤ d +ℤ pos 3 *ℤ dr) (pos 16))
from_neighbours (Some l) None None None = Some l
from_neighbours (Some l) None None (Some dr) = Some (int_div (pos 75 *ℤ l +ℤ pos 53 *ℤ dr) (pos 128))
from_neighbours (Some l) None (Some d) None = Some (int_div (l +ℤ d) (pos 2))
from_neighbours (Some l) None (Some d) (Some dr) = Some (int_div (pos 75 *ℤ l +ℤ pos 53 *ℤ dr) (pos 128))
from_neighbours (Some l) (Some dl) None None = Some l
from_neighbours (Some l) (Some dl) None (Some dr) = Some (int_div (pos 75 *ℤ l +ℤ pos 53 *ℤ dr) (pos 128))
from_neighbours (Some l) (Some dl) (Some d) dr = Some (extended l dl d)
