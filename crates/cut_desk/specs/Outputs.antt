-- What a command leaves of the outputs and of the names that a desk was asked for (own).
use Rattle.std.specs.Prelude.{◌≡◌, ℕ, List, [], ◌∷◌, ◌⊎◌, Option}
use Rattle.vid_desk.specs.Meaning.{Meaning, Rose, with_last}

-- one output was created, with this name, and holds these bytes
pub record Makes (old new : Meaning) (name bytes : List ℕ) : Type 0 where
  pub outputs : new.outputs ≡ with_last old.outputs (record { name = name; bytes = bytes })
  pub asked_for : new.named ≡ with_last old.named name

-- no output was created, though its name may have been asked for
pub record MakesNone (old new : Meaning) (name : List ℕ) : Type 0 where
  pub outputs : new.outputs ≡ old.outputs
  pub asked_for : (new.named ≡ old.named) ⊎ (new.named ≡ with_last old.named name)

-- at most one output was created, and it has this name
abbrev pub MakesAtMost : Meaning → Meaning → List ℕ → Type 0
MakesAtMost old new name = MakesNone old new name ⊎ ((bytes : List ℕ) × Makes old new name bytes)

-- nothing but the outputs, the names asked for and their counts changed
abbrev pub Makings : Meaning → Meaning → Type 0
Makings old new = new ≡ record old { outputs = new.outputs; named = new.named; write_faults = new.write_faults; made = new.made }

-- nothing but the names looked for, the counts of reading and the bytes asked for changed
abbrev pub Looks : Meaning → Meaning → Type 0
Looks old new = new ≡ record old { sought = new.sought; read_faults = new.read_faults; asked = new.asked; found = new.found }

-- nothing was asked of the outputs
abbrev pub LeavesOutputs : Meaning → Meaning → Type 0
LeavesOutputs old new = (new.outputs ≡ old.outputs) × (new.named ≡ old.named)

-- the first of these names were looked for, in order
abbrev pub Seeks : Option (List (List ℕ)) → Option (List (List ℕ)) → List (List ℕ) → Type 0
Seeks old new [] = new ≡ old
Seeks old new (name ∷ names) = (new ≡ old) ⊎ Seeks (with_last old name) new names

-- no fault of reading or writing was counted
abbrev pub IsCalm : Meaning → Meaning → Type 0
IsCalm old new = (Rose old.read_faults new.read_faults → ⊥) × (Rose old.write_faults new.write_faults → ⊥)
