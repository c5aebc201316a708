-- What the lists of the code say together (own).
use Rattle.std.specs.Prelude.{ℕ, ℤ, Bool, List, map}
use Rattle.vid_base.specs.declared.shape.Vector.{Vector}
use Rattle.thr_modes.specs.Vectors.{offset_of}
use Rattle.thr_frame.specs.Parsed.{Motion, Residue}

abbrev pub motion_with : List Bool → List ℕ → List Vector → Motion
motion_with flags modes vectors = record { flags = flags; modes = modes; vectors = map offset_of vectors }

abbrev pub residue_with : List ℕ → List (List ℤ) → List ℕ → Residue
residue_with places values counts = record { places = places; values = values; counts = counts }
