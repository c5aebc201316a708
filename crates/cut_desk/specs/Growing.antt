-- An output that grows while inputs are read: what a desk tells after it was created, inputs were read and bytes came to it (own).
use Rattle.std.specs.Prelude.{◌≡◌, ℕ, ◌<◌, ◌≤◌, List, length, Some}
use Rattle.vid_desk.specs.Meaning.{File, Meaning, with_last, Grown}

-- inputs were read and bytes came to an output, and no count fell
pub record Grows (old new : Meaning) (id : ℕ) (came : List ℕ) : Type 0 where
  pub grown : Grown old new id came
  pub read_later : old.read_faults ≤ new.read_faults
  pub write_later : old.write_faults ≤ new.write_faults

-- since `start` an output of this name was created, inputs were read, and these bytes came to it
pub record IsGrowing (start now : Meaning) (id : ℕ) (name bytes : List ℕ) : Type 0 where
  pub outside : now ≡ record start {
    outputs = with_last start.outputs (record { name = name; bytes = bytes });
    named = with_last start.named name;
    read_faults = now.read_faults;
    write_faults = now.write_faults;
    asked = now.asked;
    made = now.made;
  }
  pub place : (files : List File) → start.outputs ≡ Some files → id ≡ length files
  pub room : id < now.made
  pub read_later : start.read_faults ≤ now.read_faults
  pub write_later : start.write_faults ≤ now.write_faults

-- nothing but the outputs, the names asked for, the counts of faults and of outputs, and what was read changed
abbrev pub ReadsAndMakes : Meaning → Meaning → Type 0
ReadsAndMakes old new = new ≡ record old {
  outputs = new.outputs;
  named = new.named;
  read_faults = new.read_faults;
  write_faults = new.write_faults;
  asked = new.asked;
  made = new.made;
}
