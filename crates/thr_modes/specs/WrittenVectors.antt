-- The bits that vectors are written as, under MVMODE 1 (own). luma has the flags of a macro block's luma blocks, and vectors
-- has the vectors of these blocks, both in raster order from the lower left.
use Rattle.std.specs.Prelude.{ℕ, ℤ, ◌==◌, ◌||◌, Bool, List, [], ◌∷◌, ◌++◌, map, get_or, if◌then◌else◌}
use Rattle.std.specs.Int.{is_negative}
use Rattle.std.specs.Int.RustNames.{unsigned_abs}
use Rattle.vid_base.specs.declared.shape.Shape.{Shape}
use Rattle.vid_base.specs.Bits.{digits}
use Rattle.vid_geom.specs.CodedOrder.{place_of}
use Rattle.vid_geom.specs.MacroBlocks.{Area, macro_blocks}
use Rattle.thr_modes.specs.Vectors.{Offset, still}

-- a component: its size, and whether it is negative
unfoldable pub component_code : ℤ → List Bool
component_code component = digits 5 (unsigned_abs component) ++ is_negative component ∷ []

-- a vector: its component to the right, and then the one upwards
unfoldable pub vector_code : Offset → List Bool
vector_code v = component_code v.x ++ component_code v.y

-- the vectors of coded blocks; none is written for the others
unfoldable pub own_codes : List Bool → List Offset → List Bool
own_codes [] vectors = []
own_codes (coded ∷ luma) [] = []
own_codes (coded ∷ luma) (v ∷ vectors) = (if coded then vector_code v else []) ++ own_codes luma vectors

-- those of a macro block, by its mode
unfoldable pub motion_code : ℕ → List Bool → List Offset → List Bool
motion_code mode luma vectors =
    if mode == 2 || mode == 6 then vector_code (get_or vectors 0 still)
    else if mode == 7 then own_codes luma vectors
    else []

-- those of macro blocks one behind the other
unfoldable pub motions_code : List ℕ → List (List Bool) → List (List Offset) → List Bool
motions_code [] lumas motions = []
motions_code (mode ∷ modes) [] motions = []
motions_code (mode ∷ modes) (luma ∷ lumas) [] = []
motions_code (mode ∷ modes) (luma ∷ lumas) (vectors ∷ motions) = motion_code mode luma vectors ++ motions_code modes lumas motions

-- the vectors of a macro block's luma blocks, from those of all blocks in coded order
unfoldable pub luma_vectors : Shape → List Offset → Area → List Offset
luma_vectors s vectors area = map (λ b. get_or vectors (place_of s b) still) area.luma

-- those of each macro block, in coded order
unfoldable pub macro_vectors : Shape → List Offset → List (List Offset)
macro_vectors s vectors = map (luma_vectors s vectors) (macro_blocks s)
