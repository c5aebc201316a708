-- Vectors given to the blocks of macro blocks, one macro block behind the other (own). s is the frame's shape.
use Rattle.std.specs.Prelude.{ℕ, List, [], ◌∷◌, map, slice_set}
use Rattle.vid_base.specs.declared.shape.Shape.{Shape}
use Rattle.vid_geom.specs.CodedOrder.{place_of}
use Rattle.vid_geom.specs.MacroBlocks.{Area, area_blocks}
use Rattle.thr_modes.specs.Vectors.{Offset}
use Rattle.thr_modes.specs.Motion.{Motion, block_vectors}

-- each value in the place that stands beside it
unfoldable pub put_at : {X : Type 0} → List X → List ℕ → List X → List X
put_at xs [] values = xs
put_at xs (place ∷ places) [] = xs
put_at xs (place ∷ places) (value ∷ values) = put_at (slice_set xs place value) places values

-- the vectors of a macro block in the coded places of its blocks
unfoldable pub put_motion : Shape → List Offset → Area → Motion → List Offset
put_motion s vectors area motion = put_at vectors (map (place_of s) (area_blocks area)) (block_vectors motion)

-- those of each macro block
unfoldable pub put_all : Shape → List Offset → List Area → List Motion → List Offset
put_all s vectors [] motions = vectors
put_all s vectors (area ∷ areas) [] = vectors
put_all s vectors (area ∷ areas) (motion ∷ motions) = put_all s (put_motion s vectors area motion) areas motions
