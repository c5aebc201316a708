-- What the loop filter makes of one edge between two blocks (Theora I, 7.10). p is the picture of a plane and l the filter limit;
-- columns count from the left and rows from the bottom.
use Rattle.std.specs.Prelude.{ℕ, ℤ, pos, negsuc, neg_ℤ, ◌+◌, ◌-◌, ◌*◌, ◌+ℤ◌, ◌-ℤ◌, int_lt, int_le, map, min, if◌then◌else◌}
use Rattle.std.specs.List.{fold, range_with_len}
use Rattle.std.specs.Int.{int_shr}
use Rattle.vid_plane.specs.Picture.{Picture, pixel, with_pixel}
use Rattle.vid_geom.specs.Squares.{Cell, cell}

-- the response R of four samples in a line across an edge, two of them on each side
unfoldable pub response : ℕ → ℕ → ℕ → ℕ → ℤ
response p0 p1 p2 p3 = int_shr (pos p0 -ℤ pos (3 * p1) +ℤ pos (3 * p2) -ℤ pos p3 +ℤ pos 4) 3

-- the change that the limit leaves of a response: all of a small one, less and less of one past the limit, nothing from twice the limit on
unfoldable pub limited : ℕ → ℤ → ℤ
limited l r =
    if int_le r (neg_ℤ (pos (2 * l))) then pos 0
    else if int_le r (neg_ℤ (pos l)) then neg_ℤ r -ℤ pos (2 * l)
    else if int_lt r (pos l) then r
    else if int_lt r (pos (2 * l)) then pos (2 * l) -ℤ r
    else pos 0

-- the nearest number from 0 to 255
abbrev pub byte_near : ℤ → ℕ
byte_near (pos n) = min n 255
byte_near (negsuc n) = 0

-- the sample before the edge, which gains the change
unfoldable pub before_edge : ℕ → ℕ → ℕ → ℕ → ℕ → ℕ
before_edge l p0 p1 p2 p3 = byte_near (pos p1 +ℤ limited l (response p0 p1 p2 p3))

-- the sample behind the edge, which loses it
unfoldable pub behind_edge : ℕ → ℕ → ℕ → ℕ → ℕ → ℕ
behind_edge l p0 p1 p2 p3 = byte_near (pos p2 -ℤ limited l (response p0 p1 p2 p3))

-- four samples in a line across an edge, from left to right or from bottom to top: where each stands
pub record Line : Type 0 where
  pub p0 : Cell
  pub p1 : Cell
  pub p2 : Cell
  pub p3 : Cell

-- the sample that stands there
abbrev pub sample_at : Picture → Cell → ℕ
sample_at p c = pixel p c.col c.row

-- that sample changed
abbrev pub with_sample_at : Picture → Cell → ℕ → Picture
with_sample_at p c v = with_pixel p c.col c.row v

-- a line filtered: its second and third sample change
unfoldable pub line_filtered : ℕ → Picture → Line → Picture
line_filtered l p line =
    let p0 = sample_at p line.p0 in
    let p1 = sample_at p line.p1 in
    let p2 = sample_at p line.p2 in
    let p3 = sample_at p line.p3 in
    with_sample_at (with_sample_at p line.p1 (before_edge l p0 p1 p2 p3)) line.p2 (behind_edge l p0 p1 p2 p3)

-- an edge of eight samples: upright, to the left of a block whose lower left sample stands in this column and row, or level, below such a block
pub data Edge : Type 0 where
  Upright : ℕ → ℕ → Edge
  Level : ℕ → ℕ → Edge

-- the line of an edge that is so far from its first
abbrev pub line_of : Edge → ℕ → Line
line_of (Upright x y) k = record { p0 = cell (x - 2) (y + k); p1 = cell (x - 1) (y + k); p2 = cell x (y + k); p3 = cell (x + 1) (y + k) }
line_of (Level x y) k = record { p0 = cell (x + k) (y - 2); p1 = cell (x + k) (y - 1); p2 = cell (x + k) y; p3 = cell (x + k) (y + 1) }

-- an edge filtered: its eight lines, one after another
unfoldable pub edge_filtered : ℕ → Picture → Edge → Picture
edge_filtered l p edge = fold (line_filtered l) p (map (line_of edge) (range_with_len 0 8))
