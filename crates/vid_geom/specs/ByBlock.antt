-- A value for each macro block, given to its blocks (Theora I, 2.4). s is the frame's shape.
use Rattle.std.specs.Prelude.{ℕ, ◌≡◌, Bool, List, map, get_or, Some, slice_get}
use Rattle.std.specs.List.{list_any, position_or_len, Contains}
use Rattle.vid_base.specs.declared.shape.Shape.{Shape}
use Rattle.vid_geom.specs.declared.block.Block.{Block}
use Rattle.vid_geom.specs.CodedOrder.{order_of, same_block}
use Rattle.vid_geom.specs.MacroBlocks.{Area, area_blocks, macro_blocks}

-- whether a block is one of a macro block's
abbrev pub has_block : Area → Block → Bool
has_block area b = list_any (same_block b) (area_blocks area)

-- the place of a block's macro block in coded order
unfoldable pub macro_place : Shape → Block → ℕ
macro_place s b = position_or_len (λ area. has_block area b) (macro_blocks s)

-- for each block in coded order the value of its macro block, from the values of the macro blocks in coded order
unfoldable pub by_block : {X : Type 0} → Shape → X → List X → List X
by_block s none values = map (λ b. get_or values (macro_place s b) none) (order_of s)

-- the blocks of each macro block have its place
abbrev pub OwnBlocks : Shape → Type 0
OwnBlocks s = (m : ℕ) (area : Area) (b : Block) → slice_get (macro_blocks s) m ≡ Some area → Contains (area_blocks area) b → macro_place s b ≡ m
