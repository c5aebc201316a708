-- A frame of which all blocks are coded (own). s is the frame's shape; vectors, values and counts have an entry for each block in coded
-- order, modes one for each macro block.
use Rattle.std.specs.Prelude.{ℕ, ℤ, Bool, true, List, [], ◌∷◌, replicate}
use Rattle.vid_base.specs.declared.shape.Shape.{Shape}
use Rattle.thr_modes.specs.Vectors.{Offset}
use Rattle.thr_frame.specs.CodedFrame.{CodedFrame}
use Rattle.thr_frame.specs.Parsed.{Residue, block_count}

-- all blocks have one quantiser index
abbrev pub whole_frame : Shape → Bool → ℕ → List ℕ → List Offset → List (List ℤ) → List ℕ → CodedFrame
whole_frame s intra qi modes vectors values counts = record {
  intra = intra;
  qis = qi ∷ [];
  flags = replicate (block_count s) true;
  modes = modes;
  vectors = vectors;
  places = replicate (block_count s) 0;
  values = values;
  counts = counts;
}

-- its residue, whose DC values are differences still
abbrev pub whole_residue : Shape → List (List ℤ) → List ℕ → Residue
whole_residue s values counts = record { places = replicate (block_count s) 0; values = values; counts = counts }
