-- A desk that is held in memory whole, with the calls that are to fail (own).
use Rattle.std.specs.Prelude.{◌≡◌, ℕ, ◌+◌, ◌-◌, ◌^◌, ◌==◌, List, length, min, reverse, unwrap_or, Option, Some, IsSome, Result, Ok, Err}
use Rattle.std.specs.Option.{option_map}
use Rattle.std.specs.Str.{bytes_eq}
use Rattle.std.specs.List.{find}
use Rattle.vid_desk.specs.declared.fault.DeskFault.{DeskFault}
use Rattle.vid_desk.specs.declared.fault.DeskFault.TheVariants.{Failed, NoMem}
use Rattle.vid_desk.specs.Meaning.{File, Meaning}

-- a call that is to fail, by its number, and how many first bytes of its piece stand all the same
pub record ToFail : Type 0 where
  pub call : ℕ
  pub part : ℕ

-- the files, text, names and counts, how many calls were made, and those that are to fail, counted from 0
pub record Memory : Type 0 where
  pub inputs : List File
  pub outputs : List File
  pub said : List ℕ
  pub sought : List (List ℕ)
  pub named : List (List ℕ)
  pub read_faults : ℕ
  pub write_faults : ℕ
  pub asked : ℕ
  pub calls : ℕ
  pub failing : List ToFail

-- it tells everything: each input counts as found, and each output as made
abbrev pub told : Memory → Meaning
told m = record {
  inputs = Some m.inputs;
  outputs = Some m.outputs;
  said = Some m.said;
  sought = Some m.sought;
  named = Some m.named;
  read_faults = m.read_faults;
  write_faults = m.write_faults;
  asked = m.asked;
  found = length m.inputs;
  made = length m.outputs;
}

-- how many bytes stand of the piece of the call of that number; None where it is not to fail
abbrev pub part_at : List ToFail → ℕ → Option ℕ
part_at failing call = option_map (λ failure. failure.part) (find (λ failure. failure.call == call) failing)

-- the next call is to fail
abbrev pub IsToFail : Memory → Type 0
IsToFail m = IsSome (part_at m.failing m.calls)

-- how many bytes stand of the piece of the next call, where it is to fail
abbrev pub part_of : Memory → ℕ
part_of m = unwrap_or (part_at m.failing m.calls) 0

-- one call was counted, and those that are to fail stay
abbrev pub CountsCall : Memory → Memory → Type 0
CountsCall old new = (new.calls ≡ min (old.calls + 1) (2 ^ 64 - 1)) × (new.failing ≡ old.failing)

-- a count of faults after a call: one more where the call failed, as far as 64 bits go
abbrev pub faults_after : {A : Type 0} → ℕ → Result A DeskFault → ℕ
faults_after before (Ok _) = before
faults_after before (Err Failed) = min (before + 1) (2 ^ 64 - 1)
faults_after before (Err NoMem) = before

-- the bytes of the file of that name that was created last
abbrev pub last_of : List File → List ℕ → Option (List ℕ)
last_of files name = option_map (λ file. file.bytes) (find (λ file. bytes_eq file.name name) (reverse files))
