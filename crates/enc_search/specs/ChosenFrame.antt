-- Modes and vectors alone, as a frame of which all blocks are coded (own).
use Rattle.std.specs.Prelude.{ℕ, false, List, []}
use Rattle.thr_modes.specs.Vectors.{Offset}
use Rattle.thr_frame.specs.CodedFrame.{CodedFrame}

-- predicted samples depend on nothing else of a frame
abbrev pub chosen_frame : List ℕ → List Offset → CodedFrame
chosen_frame modes vectors = record { intra = false; qis = []; flags = []; modes = modes; vectors = vectors; places = []; values = []; counts = [] }
