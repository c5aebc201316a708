-- What the parts of a layout hold (own).
use Rattle.std.specs.Prelude.{ℕ, ◌≡◌, ◌<◌, List}
use Rattle.std.specs.List.{All}
use Rattle.vid_base.specs.declared.shape.Shape.{Shape}
use Rattle.vid_geom.specs.Squares.{Cell, Grid, cells}
use Rattle.vid_geom.specs.CodedOrder.{block_grid, superblock_ranges}
use Rattle.vid_geom.specs.MacroBlocks.{macro_grid}

-- no range is empty
abbrev pub AreSome : List (ℕ × ℕ) → Type 0
AreSome ranges = All (λ range. range.0 < range.1) ranges

-- the tables are those of the shape's planes, and superblocks and macro blocks stand in coded order
pub record IsLayout (s : Shape) (luma chroma : Grid) (superblocks : List (ℕ × ℕ)) (macro_blocks : List Cell) : Type 0 where
  pub luma_is : luma ≡ block_grid s 0
  pub chroma_is : chroma ≡ block_grid s 1
  pub superblocks_are : superblocks ≡ superblock_ranges s
  pub some : AreSome superblocks
  pub macro_blocks_are : macro_blocks ≡ cells (macro_grid s)
