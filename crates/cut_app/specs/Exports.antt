-- What an export does (own).
use Rattle.std.specs.Prelude.{◌≡◌, ⊤, ℕ, Bool, List, length, Option, Ok}
use Rattle.std.specs.Str.{bytes_eq}
use Rattle.vid_desk.specs.Meaning.{File, Meaning, with_last}
use Rattle.src_index.specs.Track.{frames_of}
use Rattle.cut_desk.specs.Outputs.{LeavesOutputs, Makes}
use Rattle.cut_report.specs.declared.status.Status.{Status}
use Rattle.cut_report.specs.declared.status.Status.TheVariants.{Done, Usage, NoFile, BadSource, BadList, Range, ReadFault, WriteFault, NoMem, BadY4m, TooLong, SameName, Changed, InPointNotKey, NotYet}
use Rattle.cut_report.specs.Lines.{exported_text}
use Rattle.cut_export.specs.Exported.{IsExport}
use Rattle.cut_app.specs.Found.{IsFound}

-- the names in the words of an export
pub record Export : Type 0 where
  pub file : List ℕ
  pub out : List ℕ

-- the word OUT is that of the file
abbrev pub is_same : Export → Bool
is_same export = bytes_eq export.out export.file

-- an output of the name OUT was created, and holds the pictures of all frames of the file
pub record IsExported (old new : Meaning) (export : Export) (files : List File) : Type 0 where
  pub packets : List (List ℕ)
  pub written : List ℕ
  pub found : IsFound files export.file (Ok packets)
  pub pictures : IsExport packets written
  pub makes : Makes old new export.out written

-- the text of an export that was done: how many frames the file has. Among the outputs, where these are told, one more stands
-- after it, which holds their pictures
pub record IsExportText (files : List File) (export : Export) (before after : Option (List File)) (text : List ℕ) : Type 0 where
  pub packets : List (List ℕ)
  pub written : List ℕ
  pub found : IsFound files export.file (Ok packets)
  pub pictures : IsExport packets written
  pub output : after ≡ with_last before (record { name = export.out; bytes = written })
  pub text_is : text ≡ exported_text (length (frames_of packets))

-- what a status of an export says of the outputs: the file is read again after the step that creates one, so that faults of
-- reading, and another file, may come before it and after it
abbrev pub LeavesUntil : Status → Meaning → Meaning → Type 0
LeavesUntil ReadFault old new = ⊤
LeavesUntil Changed old new = ⊤
LeavesUntil WriteFault old new = ⊤
LeavesUntil NoMem old new = ⊤
LeavesUntil Done old new = ⊤
LeavesUntil Usage old new = LeavesOutputs old new
LeavesUntil SameName old new = LeavesOutputs old new
LeavesUntil (NoFile input) old new = LeavesOutputs old new
LeavesUntil (BadSource source what) old new = LeavesOutputs old new
LeavesUntil (BadList line why) old new = LeavesOutputs old new
LeavesUntil (Range line) old new = LeavesOutputs old new
LeavesUntil (TooLong input bytes) old new = LeavesOutputs old new
LeavesUntil InPointNotKey old new = LeavesOutputs old new
LeavesUntil (BadY4m frame why) old new = LeavesOutputs old new
LeavesUntil NotYet old new = LeavesOutputs old new
