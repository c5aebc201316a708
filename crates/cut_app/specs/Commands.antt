-- What a command leaves, by the form of its words (own).
use Rattle.std.specs.Prelude.{◌≡◌, ⊤, false, List, [], Option, Some, None, ◌⊎◌}
use Rattle.vid_desk.specs.Meaning.{File, Meaning}
use Rattle.cut_desk.specs.Outputs.{IsCalm, LeavesOutputs, Makes, MakesAtMost}
use Rattle.cut_desk.specs.Statuses.{LeavesOutputsAt}
use Rattle.cut_make.specs.Films.{MakesPart, film_text}
use Rattle.cut_slice.specs.Cause.{IsGivenAll as CanCut, Written}
use Rattle.cut_report.specs.declared.status.Status.{Status}
use Rattle.cut_report.specs.declared.status.Status.TheVariants.{Done, Usage, NoFile, BadSource, BadList, Range, ReadFault, WriteFault, NoMem, BadY4m, TooLong, SameName, Changed, InPointNotKey, NotYet}
use Rattle.cut_report.specs.Lines.{fault_text}
use Rattle.cut_app.specs.Forms.{Form}
use Rattle.cut_app.specs.Forms.Form.{Checking, Cutting, Exporting, Importing, Making, Planning}
use Rattle.cut_app.specs.Exports.{IsExported, LeavesUntil, is_same}
use Rattle.cut_app.specs.Imports.{HasHead, IsImported, IsWhole, LeavesWhileRead, is_over}
use Rattle.cut_plan.specs.declared.run.Run.{Run}
use Rattle.cut_app.specs.Plans.{HasRuns}
use Rattle.cut_app.specs.Causes.{IsSound}
use Rattle.cut_app.specs.Texts.{SaysOn, SaysLine, HasSaid}

-- what a command that was done has written: a check and a plan write nothing, an export the pictures of its file, an import the
-- pages of its pictures, making a film its pictures, and a cut the pages of its slice
abbrev pub WrittenBy : Meaning → Meaning → Option Form → List File → Type 0
WrittenBy old new None files = ⊥
WrittenBy old new (Some (Checking file)) files = LeavesOutputs old new
WrittenBy old new (Some (Exporting export)) files = IsExported old new export files
WrittenBy old new (Some (Importing import)) files = IsImported old new import files
WrittenBy old new (Some (Making make)) files = Makes old new make.out (film_text make.film)
WrittenBy old new (Some (Planning plan)) files = LeavesOutputs old new
WrittenBy old new (Some (Cutting cut)) files = Written old new cut files

-- what a command needs: a check, a file in which judging finds no fault; an export, such a file and another name; an import, a
-- text that has no departure and another name; making a film, nothing; a plan, a list that has runs over such a file; a cut, a
-- list and a source that are ready, and a key frame at the in-point
abbrev pub IsGivenAll : Form → List File → Type 0
IsGivenAll (Checking file) files = IsSound files file
IsGivenAll (Exporting export) files = (is_same export ≡ false) × IsSound files export.file
IsGivenAll (Importing import) files = (is_over import ≡ false) × IsWhole files import.y4m
IsGivenAll (Making make) files = ⊤
IsGivenAll (Planning plan) files = (runs : List Run) × HasRuns files plan runs
IsGivenAll (Cutting cut) files = CanCut cut files

-- nothing was asked of the outputs but where all was given, and then by an export, a film that is made or a cut alone; by an
-- import, but where its text begins with a head and its names are apart
abbrev pub CreatesWhenGiven : Meaning → Meaning → Option Form → List File → Type 0
CreatesWhenGiven old new None files = LeavesOutputs old new
CreatesWhenGiven old new (Some (Checking file)) files = LeavesOutputs old new
CreatesWhenGiven old new (Some (Exporting export)) files = LeavesOutputs old new ⊎ IsGivenAll (Exporting export) files
CreatesWhenGiven old new (Some (Importing import)) files = LeavesOutputs old new ⊎ ((is_over import ≡ false) × HasHead files import.y4m)
CreatesWhenGiven old new (Some (Making make)) files = ⊤
CreatesWhenGiven old new (Some (Planning plan)) files = LeavesOutputs old new
CreatesWhenGiven old new (Some (Cutting cut)) files = LeavesOutputs old new ⊎ CanCut cut files

-- where all is given and no fault was counted, the command is done or no memory was found
abbrev pub Completes : Meaning → Meaning → Option Form → List File → Status → Type 0
Completes old new None files status = ⊤
Completes old new (Some form) files status = IsGivenAll form files → IsCalm old new → (status ≡ Done) ⊎ (status ≡ NoMem)

-- a check and a plan create no output, and the others at most one, under the name OUT; that of a film holds a first part of it
abbrev pub MakesOnly : Meaning → Meaning → Option Form → Type 0
MakesOnly old new None = LeavesOutputs old new
MakesOnly old new (Some (Checking file)) = LeavesOutputs old new
MakesOnly old new (Some (Exporting export)) = MakesAtMost old new export.out
MakesOnly old new (Some (Importing import)) = MakesAtMost old new import.out
MakesOnly old new (Some (Making make)) = MakesPart old new make.out (film_text make.film)
MakesOnly old new (Some (Planning plan)) = LeavesOutputs old new
MakesOnly old new (Some (Cutting cut)) = MakesAtMost old new cut.out

-- what a status says of the outputs, by the command
abbrev pub LeavesBy : Option Form → Status → Meaning → Meaning → Type 0
LeavesBy None status old new = LeavesOutputsAt status old new
LeavesBy (Some (Checking file)) status old new = LeavesOutputsAt status old new
LeavesBy (Some (Exporting export)) status old new = LeavesUntil status old new
LeavesBy (Some (Importing import)) status old new = LeavesWhileRead status old new
LeavesBy (Some (Making make)) status old new = LeavesOutputsAt status old new
LeavesBy (Some (Planning plan)) status old new = LeavesOutputsAt status old new
LeavesBy (Some (Cutting cut)) status old new = LeavesOutputsAt status old new

-- what was said on a status
abbrev pub SaysBy : Option Form → Meaning → Meaning → Status → Type 0
SaysBy None old new Usage = SaysLine old new (fault_text Usage)
SaysBy None old new Changed = HasSaid old new []
SaysBy None old new SameName = HasSaid old new []
SaysBy None old new (BadList line why) = HasSaid old new []
SaysBy None old new (Range line) = HasSaid old new []
SaysBy None old new Done = HasSaid old new []
SaysBy None old new (NoFile input) = HasSaid old new []
SaysBy None old new (BadSource source what) = HasSaid old new []
SaysBy None old new ReadFault = HasSaid old new []
SaysBy None old new WriteFault = HasSaid old new []
SaysBy None old new NoMem = HasSaid old new []
SaysBy None old new (TooLong input bytes) = HasSaid old new []
SaysBy None old new InPointNotKey = HasSaid old new []
SaysBy None old new (BadY4m frame why) = HasSaid old new []
SaysBy None old new NotYet = HasSaid old new []
SaysBy (Some form) old new status = SaysOn form old new status

-- a line was said of a status, which stays; but where no memory was found to say it, nothing was said
abbrev pub Tells : Meaning → Meaning → Status → Status → Type 0
Tells old new status told = ((told ≡ status) × SaysLine old new (fault_text status)) ⊎ ((told ≡ NoMem) × HasSaid old new [])

-- nothing but the text, the names looked for, the counts of faults and what was read changed
abbrev pub ReadsAndSays : Meaning → Meaning → Type 0
ReadsAndSays old new = new ≡ record old {
  said = new.said;
  sought = new.sought;
  read_faults = new.read_faults;
  write_faults = new.write_faults;
  asked = new.asked;
  found = new.found;
}
