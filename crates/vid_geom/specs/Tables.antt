-- What the tables of a plane hold (own).
use Rattle.std.specs.Prelude.{ℕ, ◌≡◌, ◌+◌, ◌*◌, ◌<◌, ◌≤◌, ◌^◌, List, length, get_or}
use Rattle.vid_geom.specs.Squares.{Cell, Grid, cell, cells}

-- a grid is no larger than that of a frame's blocks
abbrev pub IsSmall : Grid → Type 0
IsSmall g = (g.width ≤ 2 ^ 18) × (g.height ≤ 2 ^ 18) × (g.width * g.height ≤ 2 ^ 19)

-- where a cell's entry stands in a table in raster order
abbrev pub raster_place : Grid → Cell → ℕ
raster_place g c = c.row * g.width + c.col

-- the entry of each cell walked through is its place
abbrev pub HasPlaces : Grid → List Cell → List ℕ → Type 0
HasPlaces g order places = (k : ℕ) → k < length order → get_or places (raster_place g (get_or order k (cell 0 0))) 0 ≡ k

-- one table has the cells in order, and one in raster order has the place of each
pub record AreTables (g : Grid) (order : List Cell) (places : List ℕ) : Type 0 where
  pub small : IsSmall g
  pub ordered : order ≡ cells g
  pub whole : length places ≡ g.width * g.height
  pub placed : HasPlaces g order places
