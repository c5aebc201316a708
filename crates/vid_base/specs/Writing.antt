-- What a writer adds to the bits that were there, and what is read of it (own). old are the bits before a call, new those after it.
use Rattle.std.specs.Prelude.{◌≡◌, Bool, List, [], ◌∷◌, ◌++◌, Result, Ok}
use Rattle.vid_base.specs.declared.fault.PacketFault.{PacketFault}

-- bits were only added
abbrev pub Grows : List Bool → List Bool → Type 0
Grows old new = (more : List Bool) × (new ≡ old ++ more)

-- one bit was added
abbrev pub AddsBit : Bool → List Bool → List Bool → Type 0
AddsBit bit old new = new ≡ old ++ bit ∷ []

-- the bits that were added are read as the value, whatever follows them, and what follows is left
pub record ReadsBack {A : Type 0} (read : List Bool → Result (A × List Bool) PacketFault) (value : A) (old new : List Bool) : Type 0 where
  pub more : List Bool
  pub added : new ≡ old ++ more
  pub reads : (rest : List Bool) → read (more ++ rest) ≡ Ok (value, rest)
