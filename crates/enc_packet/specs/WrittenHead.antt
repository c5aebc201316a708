-- (private) The bits that are written for a head with one quantiser index (Theora I, 7.1).
use Rattle.std.specs.Prelude.{ℕ, Bool, false, not, List, [], ◌∷◌, ◌++◌, if◌then◌else◌}
use Rattle.vid_base.specs.Bits.{digits}

-- no further index (MOREQIS), and the three reserved bits of an intra frame
unfoldable pub end_code : Bool → List Bool
end_code intra = false ∷ (if intra then digits 3 0 else [])

-- the bit of a data packet, FTYPE, QI, and what is behind it
unfoldable pub head_code : Bool → ℕ → List Bool
head_code intra qi = false ∷ not intra ∷ (digits 6 qi ++ end_code intra)
