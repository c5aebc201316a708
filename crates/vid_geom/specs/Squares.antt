-- The cells of a grid, square after square (Theora I, 2.3 and 2.4). A grid g has a width and a height in cells and a walk
-- through each of its squares; columns count from the left and rows from the bottom.
use Rattle.std.specs.Prelude.{ℕ, ◌+◌, ◌*◌, ◌&&◌, nat_lt, Bool, List, [], ◌∷◌, map, filter, if◌then◌else◌}
use Rattle.std.specs.List.{flat_map, range_with_len}
use Rattle.std.specs.Int.{div_ceil}

-- a place of a grid: so many cells stand to the left of it, and so many below it
pub record Cell : Type 0 where
  pub col : ℕ
  pub row : ℕ

-- the way through the cells of a square: through the 16 blocks of a superblock, or through its 4 macro blocks
pub data Walk : Type 0 where
  Hilbert : Walk
  Clockwise : Walk

-- a grid of cells that is walked through square by square
pub record Grid : Type 0 where
  pub walk : Walk
  pub width : ℕ
  pub height : ℕ

-- the cell in this column and row
abbrev pub cell : ℕ → ℕ → Cell
cell col row = record { col = col; row = row }

-- how many cells the side of a square has
abbrev pub side_of : Walk → ℕ
side_of Hilbert = 4
side_of Clockwise = 2

-- the cells of a whole square in order: the Hilbert curve through a superblock's blocks, and the macro blocks of a
-- superblock from the lower left by the upper left and the upper right to the lower right
abbrev pub path_of : Walk → List Cell
path_of Hilbert =
    cell 0 0 ∷ cell 1 0 ∷ cell 1 1 ∷ cell 0 1 ∷ cell 0 2 ∷ cell 0 3 ∷ cell 1 3 ∷ cell 1 2 ∷ cell 2 2 ∷ cell 2 3 ∷ cell 3 3 ∷ cell 3 2 ∷ cell 3 1 ∷ cell 2 1 ∷ cell 2 0 ∷ cell 3 0 ∷ []
path_of Clockwise = cell 0 0 ∷ cell 0 1 ∷ cell 1 1 ∷ cell 1 0 ∷ []

-- the cell that stands so far to the right and above
unfoldable pub moved : ℕ → ℕ → Cell → Cell
moved right up c = record { col = right + c.col; row = up + c.row }

-- whether the grid has the cell
abbrev pub inside : Grid → Cell → Bool
inside g c = nat_lt c.col g.width && nat_lt c.row g.height

-- the cell if the grid has it
abbrev pub only_inside : Grid → Cell → List Cell
only_inside g c = if inside g c then c ∷ [] else []

-- the square in this column and row of squares: its cells in the order of the walk, those outside the grid left out
unfoldable pub square : Grid → ℕ → ℕ → List Cell
square g col row = filter (inside g) (map (moved (side_of g.walk * col) (side_of g.walk * row)) (path_of g.walk))

-- how many squares a row of squares has
abbrev pub squares_across : Grid → ℕ
squares_across g = div_ceil g.width (side_of g.walk)

-- how many rows of squares there are
abbrev pub squares_up : Grid → ℕ
squares_up g = div_ceil g.height (side_of g.walk)

-- a row of squares from the left
unfoldable pub square_row : Grid → ℕ → List (List Cell)
square_row g row = map (λ col. square g col row) (range_with_len 0 (squares_across g))

-- all squares in raster order from the lower left
unfoldable pub squares : Grid → List (List Cell)
squares g = flat_map (square_row g) (range_with_len 0 (squares_up g))

-- lists behind one another
unfoldable pub joined : {X : Type 0} → List (List X) → List X
joined lists = flat_map (λ list. list) lists

-- all cells of the grid, square after square
unfoldable pub cells : Grid → List Cell
cells g = joined (squares g)
