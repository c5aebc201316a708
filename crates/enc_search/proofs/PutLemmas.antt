-- Vectors given to macro blocks, one macro block more. The choice cites this.
use Rattle.std.proofs.Common.{◌≡◌, List, [], ◌∷◌, ◌++◌, length, refl, arith}
use Rattle.vid_base.specs.declared.shape.Shape.{Shape}
use Rattle.vid_geom.specs.MacroBlocks.{Area}
use Rattle.thr_modes.specs.Vectors.{Offset}
use Rattle.thr_modes.specs.Motion.{Motion}
use Rattle.thr_modes.specs.Placing.{put_all, put_motion}

pub put_all_push : (s : Shape) (old : List Offset) (areas : List Area) (motions : List Motion) (area : Area) (motion : Motion) → length areas ≡ length motions
    → put_all s old (areas ++ area ∷ []) (motions ++ motion ∷ []) ≡ put_motion s (put_all s old areas motions) area motion
unfolding put_all
put_all_push s old [] [] area motion e = refl
put_all_push s old [] (first ∷ motions) area motion e = absurd (omega arith)
put_all_push s old (first ∷ areas) [] area motion e = absurd (omega arith)
put_all_push s old (first ∷ areas) (one ∷ motions) area motion e = put_all_push s (put_motion s old first one) areas motions area motion (omega arith)
