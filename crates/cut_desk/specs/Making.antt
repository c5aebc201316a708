-- An output that is being made: what a desk tells after it was created and bytes came to it (own).
use Rattle.std.specs.Prelude.{◌≡◌, ℕ, ◌<◌, ◌≤◌, List, length, Some}
use Rattle.vid_desk.specs.Meaning.{File, Meaning, with_last, Appended}

-- bytes came to an output, and no count fell
pub record Adds (old new : Meaning) (id : ℕ) (came : List ℕ) : Type 0 where
  pub appended : Appended old new id came
  pub made : new.made ≡ old.made
  pub later : old.write_faults ≤ new.write_faults

-- since `start` an output of this name was created, and these bytes came to it
pub record IsMaking (start now : Meaning) (id : ℕ) (name bytes : List ℕ) : Type 0 where
  pub outside : now ≡ record start { outputs = with_last start.outputs (record { name = name; bytes = bytes }); named = with_last start.named name; write_faults = now.write_faults; made = now.made }
  pub place : (files : List File) → start.outputs ≡ Some files → id ≡ length files
  pub room : id < now.made
  pub later : start.write_faults ≤ now.write_faults
