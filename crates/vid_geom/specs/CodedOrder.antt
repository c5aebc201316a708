-- The coded order of the blocks of a frame (Theora I, 2.3). s is the frame's shape, pli a plane: 0 is Y, 1 is Cb, 2 is Cr.
use Rattle.std.specs.Prelude.{ℕ, ◌≡◌, ◌+◌, ◌*◌, ◌/◌, ◌<◌, ◌≤◌, ◌&&◌, ◌==◌, Bool, List, [], ◌∷◌, ◌++◌, map, length, if◌then◌else◌, Some, slice_get}
use Rattle.std.specs.List.{position_or_len, All, Contains}
use Rattle.vid_base.specs.declared.shape.Shape.{Shape}
use Rattle.vid_base.specs.Sizes.{plane_width, plane_height}
use Rattle.vid_geom.specs.declared.block.Block.{Block}
use Rattle.vid_geom.specs.Squares.{Cell, Grid, Hilbert, squares, joined}

-- columns of blocks in a plane; a block is 8 by 8 samples
abbrev pub block_columns : Shape → ℕ → ℕ
block_columns s pli = plane_width s.fmbw s.pf pli / 8

-- rows of blocks in a plane
abbrev pub block_rows : Shape → ℕ → ℕ
block_rows s pli = plane_height s.fmbh s.pf pli / 8

-- the blocks of a plane as a grid whose squares are the superblocks
abbrev pub block_grid : Shape → ℕ → Grid
block_grid s pli = record { walk = Hilbert; width = block_columns s pli; height = block_rows s pli }

-- how many blocks a plane has
abbrev pub plane_blocks : Shape → ℕ → ℕ
plane_blocks s pli = block_columns s pli * block_rows s pli

-- how many blocks the planes before it have
abbrev pub blocks_before : Shape → ℕ → ℕ
blocks_before s pli = if pli == 0 then 0 else if pli == 1 then plane_blocks s 0 else plane_blocks s 0 + plane_blocks s 1

-- the most blocks that a frame has, 12 for each of 131,072 macro blocks (own)
abbrev pub most_blocks : ℕ
most_blocks = 1572864

-- the block of a plane at a cell of its grid
unfoldable pub block_of : ℕ → Cell → Block
block_of pli c = record { pli = pli; col = c.col; row = c.row }

-- the frame has the block
abbrev pub IsBlock : Shape → Block → Type 0
IsBlock s b = (b.pli < 3) × (b.col < block_columns s b.pli) × (b.row < block_rows s b.pli)

-- the superblocks of a plane, each as its blocks in coded order
unfoldable pub superblocks_of : Shape → ℕ → List (List Block)
superblocks_of s pli = map (map (block_of pli)) (squares (block_grid s pli))

-- the superblocks of a frame
unfoldable pub superblocks : Shape → List (List Block)
superblocks s = superblocks_of s 0 ++ superblocks_of s 1 ++ superblocks_of s 2

-- the blocks of a frame in coded order
unfoldable pub order_of : Shape → List Block
order_of s = joined (superblocks s)

-- the first place of each list and the place past its last, where the lists stand behind one another from a place on
unfoldable pub ranges_from : {X : Type 0} → ℕ → List (List X) → List (ℕ × ℕ)
ranges_from from [] = []
ranges_from from (list ∷ lists) = (from, from + length list) ∷ ranges_from (from + length list) lists

-- the coded places of each superblock of a frame
unfoldable pub superblock_ranges : Shape → List (ℕ × ℕ)
superblock_ranges s = ranges_from 0 (superblocks s)

-- whether two blocks are one
abbrev pub same_block : Block → Block → Bool
same_block a b = a.pli == b.pli && a.col == b.col && a.row == b.row

-- a block's coded place: how many blocks stand before it
unfoldable pub place_of : Shape → Block → ℕ
place_of s b = position_or_len (same_block b) (order_of s)

-- a coded place of a plane's blocks
abbrev pub IsPlaceIn : Shape → ℕ → ℕ → Type 0
IsPlaceIn s pli place = (blocks_before s pli ≤ place) × (place < blocks_before s pli + plane_blocks s pli)

-- a list names each block of the frame once, and no other
pub record NamesEachOnce (s : Shape) (blocks : List Block) : Type 0 where
  pub each : (b : Block) → IsBlock s b → Contains blocks b
  pub once : (i j : ℕ) (b : Block) → slice_get blocks i ≡ Some b → slice_get blocks j ≡ Some b → i ≡ j
  pub only : All (IsBlock s) blocks
