-- Macro blocks and their blocks (Theora I, 2.4). s is the frame's shape, pli a plane, c a macro block's column and row.
use Rattle.std.specs.Prelude.{ℕ, ◌≡◌, ◌-◌, ◌*◌, ◌/◌, List, ◌++◌, map, length, replicate}
use Rattle.std.specs.List.{flat_map, range_with_len}
use Rattle.vid_base.specs.declared.shape.Shape.{Shape}
use Rattle.vid_base.specs.Sizes.{plane_width, plane_height}
use Rattle.vid_geom.specs.declared.block.Block.{Block}
use Rattle.vid_geom.specs.declared.block.MacroBlock.{MacroBlock}
use Rattle.vid_geom.specs.Squares.{Cell, Grid, Clockwise, cell, moved, cells}
use Rattle.vid_geom.specs.CodedOrder.{block_of, place_of}

-- the macro blocks of a frame as a grid whose squares are those of the luma superblocks
abbrev pub macro_grid : Shape → Grid
macro_grid s = record { walk = Clockwise; width = s.fmbw; height = s.fmbh }

-- columns of blocks that a macro block has in a plane, from the pixel format: those of a frame of one macro block
abbrev pub columns_in : ℕ → ℕ → ℕ
columns_in pf pli = plane_width 1 pf pli / 8

-- the same upwards
abbrev pub rows_in : ℕ → ℕ → ℕ
rows_in pf pli = plane_height 1 pf pli / 8

-- the cells of a rectangle in raster order from the lower left
unfoldable pub raster : ℕ → ℕ → List Cell
raster columns rows = flat_map (λ row. map (λ col. cell col row) (range_with_len 0 columns)) (range_with_len 0 rows)

-- the blocks of a macro block in a plane, in raster order from the lower left
unfoldable pub blocks_in : ℕ → ℕ → Cell → List Block
blocks_in pf pli c = map (λ b. block_of pli (moved (columns_in pf pli * c.col) (rows_in pf pli * c.row) b)) (raster (columns_in pf pli) (rows_in pf pli))

-- a macro block as its blocks in each plane
pub record Area : Type 0 where
  pub luma : List Block
  pub cb : List Block
  pub cr : List Block

-- the macro block in a column and row
unfoldable pub area_at : ℕ → Cell → Area
area_at pf c = record { luma = blocks_in pf 0 c; cb = blocks_in pf 1 c; cr = blocks_in pf 2 c }

-- the macro blocks of a frame in coded order
unfoldable pub macro_blocks : Shape → List Area
macro_blocks s = map (area_at s.pf) (cells (macro_grid s))

-- all blocks of a macro block
abbrev pub area_blocks : Area → List Block
area_blocks area = area.luma ++ area.cb ++ area.cr

-- all blocks of the macro blocks, one macro block behind the other
unfoldable pub macro_order : Shape → List Block
macro_order s = flat_map area_blocks (macro_blocks s)

-- up to four numbers, with zeros behind them
abbrev pub filled : List ℕ → List ℕ
filled numbers = numbers ++ replicate (4 - length numbers) 0

-- a macro block's numbers are the coded places of its blocks, and 0 past chroma_count
pub record IsMacroBlock (s : Shape) (area : Area) (m : MacroBlock) : Type 0 where
  pub luma : m.luma ≡ map (place_of s) area.luma
  pub cb : m.cb ≡ filled (map (place_of s) area.cb)
  pub cr : m.cr ≡ filled (map (place_of s) area.cr)
  pub count : m.chroma_count ≡ length area.cb
