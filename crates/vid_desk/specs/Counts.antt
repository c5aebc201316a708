-- A desk over files of which no content is known: its counts alone (own).
use Rattle.std.specs.Prelude.{ℕ, None}
use Rattle.vid_desk.specs.Meaning.{Meaning}

-- faults of reading and of writing, bytes asked for, inputs found, outputs made
pub record Counts : Type 0 where
  pub read_faults : ℕ
  pub write_faults : ℕ
  pub asked : ℕ
  pub found : ℕ
  pub made : ℕ

-- it tells nothing but its counts
abbrev pub untold : Counts → Meaning
untold c = record {
  inputs = None;
  outputs = None;
  said = None;
  sought = None;
  named = None;
  read_faults = c.read_faults;
  write_faults = c.write_faults;
  asked = c.asked;
  found = c.found;
  made = c.made;
}
