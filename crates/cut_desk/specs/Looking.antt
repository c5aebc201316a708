-- Statuses that come while a list and a source are looked for (own).
use Rattle.std.specs.Prelude.{⊤, ℕ, List, [], ◌∷◌}
use Rattle.vid_desk.specs.Meaning.{File}
use Rattle.cut_report.specs.declared.status.Status.{Status}
use Rattle.cut_report.specs.declared.status.Status.TheVariants.{Done, Usage, NoFile, BadSource, BadList, Range, ReadFault, WriteFault, NoMem, BadY4m, TooLong, SameName, Changed, InPointNotKey, NotYet}
use Rattle.cut_desk.specs.Inputs.{IsMissing}

-- of the statuses that come while inputs are looked for, NoFile says which is the first that is not there
abbrev pub Missing : List File → List ℕ → List ℕ → Status → Type 0
Missing files list source (NoFile input) = IsMissing files (list ∷ source ∷ []) input
Missing files list source ReadFault = ⊤
Missing files list source NoMem = ⊤
Missing files list source Done = ⊥
Missing files list source Usage = ⊥
Missing files list source Changed = ⊥
Missing files list source SameName = ⊥
Missing files list source (BadList line why) = ⊥
Missing files list source (Range line) = ⊥
Missing files list source (BadSource at what) = ⊥
Missing files list source WriteFault = ⊥
Missing files list source (TooLong input bytes) = ⊥
Missing files list source InPointNotKey = ⊥
Missing files list source (BadY4m frame why) = ⊥
Missing files list source NotYet = ⊥

-- statuses that come while inputs are looked for
abbrev pub IsLooking : Status → Type 0
IsLooking Done = ⊥
IsLooking Usage = ⊥
IsLooking Changed = ⊥
IsLooking SameName = ⊥
IsLooking (BadList line why) = ⊥
IsLooking (Range line) = ⊥
IsLooking (NoFile input) = ⊤
IsLooking (BadSource at what) = ⊥
IsLooking ReadFault = ⊤
IsLooking WriteFault = ⊥
IsLooking NoMem = ⊤
IsLooking (TooLong input bytes) = ⊥
IsLooking InPointNotKey = ⊥
IsLooking (BadY4m frame why) = ⊥
IsLooking NotYet = ⊥
