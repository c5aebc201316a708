-- The bits that modes are written as, under scheme 7 (own).
use Rattle.std.specs.Prelude.{ℕ, Bool, List, [], ◌∷◌, ◌++◌, if◌then◌else◌}
use Rattle.vid_base.specs.Bits.{digits}
use Rattle.thr_modes.specs.LumaFlags.{some_coded}

-- a mode of a macro block whose luma blocks have these flags
unfoldable pub mode_code : List Bool → ℕ → List Bool
mode_code luma mode = if some_coded luma then digits 3 mode else []

-- those of all macro blocks
unfoldable pub modes_code : List (List Bool) → List ℕ → List Bool
modes_code (luma ∷ lumas) (mode ∷ modes) = mode_code luma mode ++ modes_code lumas modes
modes_code [] modes = []
modes_code (luma ∷ lumas) [] = []
