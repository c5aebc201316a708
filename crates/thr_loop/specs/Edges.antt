-- The edges of a plane that the loop filter treats, in its order (Theora I, 7.10.3). coded tells which blocks are coded; the plane has
-- so many columns and rows of blocks, and c is the place of a block among them.
use Rattle.std.specs.Prelude.{ℕ, Bool, ◌+◌, ◌*◌, ◌&&◌, not, nat_lt, List, [], ◌∷◌, ◌++◌, if◌then◌else◌}
use Rattle.std.specs.List.{flat_map}
use Rattle.vid_geom.specs.Squares.{Cell, cell}
use Rattle.vid_geom.specs.MacroBlocks.{raster}
use Rattle.thr_loop.specs.EdgeRule.{Edge, Upright, Level}

-- the edge to the left of a block
abbrev pub left_edge : Cell → Edge
left_edge c = Upright (8 * c.col) (8 * c.row)

-- the edge below a block
abbrev pub lower_edge : Cell → Edge
lower_edge c = Level (8 * c.col) (8 * c.row)

-- the block to the right
abbrev pub right_of : Cell → Cell
right_of c = cell (c.col + 1) c.row

-- the block above
abbrev pub above : Cell → Cell
above c = cell c.col (c.row + 1)

-- the plane has the block and it is not coded
abbrev pub is_uncoded : (Cell → Bool) → ℕ → ℕ → Cell → Bool
is_uncoded coded columns rows c = nat_lt c.col columns && nat_lt c.row rows && not (coded c)

-- an edge where the test holds
abbrev pub edge_if : Bool → Edge → List Edge
edge_if test edge = if test then edge ∷ [] else []

-- the edges of a coded block: left and lower where they aren't the plane's border, right and upper where a block that is not coded lies behind them
-- (the edge between two coded blocks is the left or lower one of the second)
unfoldable pub coded_block_edges : (Cell → Bool) → ℕ → ℕ → Cell → List Edge
coded_block_edges coded columns rows c =
    edge_if (nat_lt 0 c.col) (left_edge c)
    ++ edge_if (nat_lt 0 c.row) (lower_edge c)
    ++ edge_if (is_uncoded coded columns rows (right_of c)) (left_edge (right_of c))
    ++ edge_if (is_uncoded coded columns rows (above c)) (lower_edge (above c))

-- the edges of a block: none where it is not coded
unfoldable pub block_edges : (Cell → Bool) → ℕ → ℕ → Cell → List Edge
block_edges coded columns rows c = if coded c then coded_block_edges coded columns rows c else []

-- the edges of a plane: of its blocks in raster order from the lower left
unfoldable pub plane_edges : (Cell → Bool) → ℕ → ℕ → List Edge
plane_edges coded columns rows = flat_map (block_edges coded columns rows) (raster columns rows)
