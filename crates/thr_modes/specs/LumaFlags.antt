-- Which luma blocks of the macro blocks are coded (Theora I, 7.4). s is the frame's shape, flags has an entry for each
-- block in coded order.
use Rattle.std.specs.Prelude.{Bool, false, List, get_or, map}
use Rattle.std.specs.List.{list_any}
use Rattle.vid_base.specs.declared.shape.Shape.{Shape}
use Rattle.vid_geom.specs.CodedOrder.{place_of}
use Rattle.vid_geom.specs.MacroBlocks.{Area, macro_blocks}

-- the flags of a macro block's luma blocks, in raster order from the lower left
unfoldable pub luma_flags : Shape → List Bool → Area → List Bool
luma_flags s flags area = map (λ b. get_or flags (place_of s b) false) area.luma

-- those of each macro block, in coded order
unfoldable pub macro_flags : Shape → List Bool → List (List Bool)
macro_flags s flags = map (luma_flags s flags) (macro_blocks s)

-- whether a block of them is coded
abbrev pub some_coded : List Bool → Bool
some_coded luma = list_any (λ coded. coded) luma
