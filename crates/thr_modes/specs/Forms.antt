-- The forms in which modes and vectors are coded (Theora I, 7.4 and 7.5.1).
use Rattle.std.specs.Prelude.{ℕ, List}

-- a mode: by its rank, from the modes by rank, or as a number of 3 bits
pub data ModeForm : Type 0 where
  Ranked : List ℕ → ModeForm
  Plain : ModeForm

-- a component of a vector: by a prefix of 3 bits (MVMODE 0), or by 5 bits and a sign (MVMODE 1)
pub data VectorForm : Type 0 where
  Prefixed : VectorForm
  Fixed : VectorForm
