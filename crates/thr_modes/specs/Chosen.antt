-- The vectors that may be chosen for the modes of a frame, said without bits (Theora I, 7.5.2). s is the frame's shape, pf its
-- pixel format; luma has the flags of a macro block's luma blocks in raster order from the lower left, vectors their vectors.
use Rattle.std.specs.Prelude.{ℕ, ◌≡◌, ◌==◌, ◌||◌, Bool, true, false, List, [], ◌∷◌, length, get_or, if◌then◌else◌}
use Rattle.std.specs.List.{All}
use Rattle.vid_base.specs.declared.shape.Shape.{Shape}
use Rattle.thr_modes.specs.LumaFlags.{macro_flags}
use Rattle.thr_modes.specs.Vectors.{IsComponent, Offset, still}
use Rattle.thr_modes.specs.Motion.{Memory, Motion, after, by_block, empty, exchanged, last_coded, own_motion, same_motion}

-- its components are no larger than 31
abbrev pub IsVector : Offset → Type 0
IsVector v = IsComponent v.x × IsComponent v.y

-- the vectors of a macro block's blocks from those of its luma blocks: in modes 2 and 6 all have one vector, in modes 3 and 4
-- one that is remembered, in mode 7 the chroma blocks have means of the luma blocks' own, and in modes 0, 1 and 5 none moves
unfoldable pub motion_for : ℕ → ℕ → Memory → List Offset → Motion
motion_for pf mode memory vectors =
    if mode == 2 || mode == 6 then same_motion pf (get_or vectors 0 still)
    else if mode == 3 then same_motion pf memory.last1
    else if mode == 4 then same_motion pf memory.last2
    else if mode == 7 then own_motion pf vectors
    else same_motion pf still

-- what is remembered behind it
unfoldable pub memory_behind : ℕ → List Bool → Memory → List Offset → Memory
memory_behind mode luma memory vectors =
    if mode == 2 then after (get_or vectors 0 still) memory
    else if mode == 4 then exchanged memory
    else if mode == 7 then after (last_coded luma vectors memory.last1) memory
    else memory

-- no luma block that is not coded has a vector
abbrev pub StillWhereUncoded : List Bool → List Offset → Type 0
StillWhereUncoded luma vectors = (b : ℕ) → get_or luma b true ≡ false → get_or vectors b still ≡ still

-- what may be chosen for a macro block of a mode
pub record IsChosen (pf mode : ℕ) (luma : List Bool) (memory : Memory) (motion : Motion) : Type 0 where
  pub long : length motion.luma ≡ length luma
  pub small : All IsVector motion.luma
  pub allowed : motion ≡ motion_for pf mode memory motion.luma
  pub uncoded : mode ≡ 7 → StillWhereUncoded luma motion.luma

-- and for macro blocks one behind the other
abbrev pub AreChosenFrom : ℕ → List ℕ → List (List Bool) → Memory → List Motion → Type 0
AreChosenFrom pf [] [] memory [] = Unit {0}
AreChosenFrom pf (mode ∷ modes) (luma ∷ lumas) memory (motion ∷ motions) =
    IsChosen pf mode luma memory motion × AreChosenFrom pf modes lumas (memory_behind mode luma memory motion.luma) motions
AreChosenFrom pf [] [] memory (motion ∷ motions) = ⊥
AreChosenFrom pf [] (luma ∷ lumas) memory motions = ⊥
AreChosenFrom pf (mode ∷ modes) [] memory motions = ⊥
AreChosenFrom pf (mode ∷ modes) (luma ∷ lumas) memory [] = ⊥

-- the vectors of all blocks in coded order are chosen for these flags and modes; nothing is remembered at first
abbrev pub AreChosen : Shape → List Bool → List ℕ → List Offset → Type 0
AreChosen s flags modes vectors = (motions : List Motion) × AreChosenFrom s.pf modes (macro_flags s flags) empty motions × (vectors ≡ by_block s motions)
