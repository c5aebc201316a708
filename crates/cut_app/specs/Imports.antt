-- What an import does (own).
use Rattle.std.specs.Prelude.{◌≡◌, ⊤, ℕ, ◌<◌, ◌≤◌, Bool, List, Option, Some, None, Ok, take}
use Rattle.std.specs.Str.{bytes_eq}
use Rattle.vid_desk.specs.Meaning.{File, Meaning, with_last}
use Rattle.y4m_io.specs.declared.fault.Y4mWhy.{Y4mWhy}
use Rattle.y4m_io.specs.declared.head.Head.{Head}
use Rattle.y4m_io.specs.HeadLine.{HeadRead, head_in, longest_head}
use Rattle.y4m_io.specs.Pictures.{Samples}
use Rattle.y4m_io.specs.Reading.{IsY4m}
use Rattle.cut_desk.specs.Inputs.{contents}
use Rattle.cut_desk.specs.Outputs.{LeavesOutputs, Makes}
use Rattle.cut_report.specs.declared.status.Status.{Status}
use Rattle.cut_report.specs.declared.status.Status.TheVariants.{Done, Usage, NoFile, BadSource, BadList, Range, ReadFault, WriteFault, NoMem, BadY4m, TooLong, SameName, Changed, InPointNotKey, NotYet}
use Rattle.cut_report.specs.Lines.{imported_text}
use Rattle.cut_import.specs.Imported.{Departs, IsImport}
use Rattle.cut_app.specs.declared.numbers.Coding.{Coding}

-- a quantiser index, and a number of frames from one key frame to the next, that are within their limits
abbrev pub IsCoding : Coding → Type 0
IsCoding coding = (coding.qi < 64) × ((0 < coding.keys) × (coding.keys ≤ 64))

-- the names and the numbers in the words of an import
pub record Import : Type 0 where
  pub y4m : List ℕ
  pub out : List ℕ
  pub coding : Coding

-- the word OUT is that of the input
abbrev pub is_over : Import → Bool
is_over import = bytes_eq import.out import.y4m

-- the input is there, and its text has no departure
pub record IsWhole (files : List File) (name : List ℕ) : Type 0 where
  pub bytes : List ℕ
  pub there : contents files name ≡ Some bytes
  pub head : Head
  pub pictures : List Samples
  pub text : IsY4m bytes head pictures None

-- the input is there, and its text departs there first, for that why
pub record DepartsAt (files : List File) (name : List ℕ) (frame : ℕ) (why : Y4mWhy) : Type 0 where
  pub bytes : List ℕ
  pub there : contents files name ≡ Some bytes
  pub departs : Departs bytes frame why

-- the input is there, and its text begins with a head
pub record HasHead (files : List File) (name : List ℕ) : Type 0 where
  pub bytes : List ℕ
  pub there : contents files name ≡ Some bytes
  pub read : HeadRead
  pub head : head_in (take longest_head bytes) ≡ Ok read

-- the input is there, and these bytes are an import of so many pictures
pub record IsImportOf (files : List File) (import : Import) (count : ℕ) (written : List ℕ) : Type 0 where
  pub bytes : List ℕ
  pub there : contents files import.y4m ≡ Some bytes
  pub film : IsImport bytes import.coding.qi import.coding.keys count written

-- an output of the name OUT was created, and holds the import of so many pictures
pub record Imports (old new : Meaning) (import : Import) (files : List File) (count : ℕ) : Type 0 where
  pub written : List ℕ
  pub film : IsImportOf files import count written
  pub makes : Makes old new import.out written

-- the same of as many as there are
abbrev pub IsImported : Meaning → Meaning → Import → List File → Type 0
IsImported old new import files = (count : ℕ) × Imports old new import files count

-- the text of an import that was done: how many pictures there are. Among the outputs, where these are told, one more stands
-- after it, which holds them
pub record IsImportText (files : List File) (import : Import) (before after : Option (List File)) (text : List ℕ) : Type 0 where
  pub count : ℕ
  pub written : List ℕ
  pub film : IsImportOf files import count written
  pub output : after ≡ with_last before (record { name = import.out; bytes = written })
  pub text_is : text ≡ imported_text count

-- what a status of an import says of the outputs: its input is read on after the step that creates one, so that a departure and
-- a fault of reading may come before it and after it
abbrev pub LeavesWhileRead : Status → Meaning → Meaning → Type 0
LeavesWhileRead ReadFault old new = ⊤
LeavesWhileRead (BadY4m frame why) old new = ⊤
LeavesWhileRead WriteFault old new = ⊤
LeavesWhileRead NoMem old new = ⊤
LeavesWhileRead Done old new = ⊤
LeavesWhileRead Usage old new = LeavesOutputs old new
LeavesWhileRead SameName old new = LeavesOutputs old new
LeavesWhileRead Changed old new = LeavesOutputs old new
LeavesWhileRead (NoFile input) old new = LeavesOutputs old new
LeavesWhileRead (BadSource source what) old new = LeavesOutputs old new
LeavesWhileRead (BadList line why) old new = LeavesOutputs old new
LeavesWhileRead (Range line) old new = LeavesOutputs old new
LeavesWhileRead (TooLong input size) old new = LeavesOutputs old new
LeavesWhileRead InPointNotKey old new = LeavesOutputs old new
LeavesWhileRead NotYet old new = LeavesOutputs old new
