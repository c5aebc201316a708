-- What a command says (own).
use Rattle.std.specs.Prelude.{◌≡◌, ℕ, Bool, true, false, List, [], ◌++◌, length, filter, Option, Ok, ◌⊎◌}
use Rattle.std.specs.Option.{option_map}
use Rattle.vid_desk.specs.Meaning.{File, Meaning, ToldFiles, Rose}
use Rattle.ogg_link.specs.Track.{is_key}
use Rattle.thr_ident.specs.declared.ident.Ident.{Ident}
use Rattle.thr_ident.specs.Ident.{ident_of, header_of}
use Rattle.src_index.specs.Track.{frames_of, packet_at}
use Rattle.src_index.specs.Seekable.{IsSeekable}
use Rattle.cut_report.specs.Lines.{fault_text, link_text, seekable_text}
use Rattle.cut_report.specs.declared.status.Status.{Status}
use Rattle.cut_report.specs.declared.status.Status.TheVariants.{Done, Usage, NoFile, BadSource, BadList, Range, ReadFault, WriteFault, NoMem, BadY4m, TooLong, SameName, Changed, InPointNotKey, NotYet}
use Rattle.cut_app.specs.Found.{IsFound}
use Rattle.cut_app.specs.Plans.{IsPlanText}
use Rattle.cut_app.specs.Forms.{Form}
use Rattle.cut_app.specs.Forms.Form.{Checking, Cutting, Exporting, Importing, Making, Planning}
use Rattle.cut_app.specs.Exports.{IsExportText}
use Rattle.cut_app.specs.Imports.{IsImportText}
use Rattle.cut_app.specs.Makes.{IsMakeText}

-- how many of these packets of a track are key frames
abbrev pub key_count : List (List ℕ) → ℕ
key_count packets = length (filter is_key (frames_of packets))

-- the line of a track's one link, and the line that says whether its file is seekable
pub record IsTrackText (bytes : List ℕ) (packets : List (List ℕ)) (text : List ℕ) : Type 0 where
  pub ident : Ident
  pub answer : Bool
  pub header : ident_of (packet_at packets 0) ≡ Ok (header_of ident)
  pub seekable : answer ≡ true → IsSeekable bytes
  pub not_seekable : answer ≡ false → ¬ IsSeekable bytes
  pub text_is : text ≡ link_text 1 ident (length (frames_of packets)) (key_count packets) ++ seekable_text answer

-- the text of a check that was done: the lines of the track that judging finds in the file
pub record IsCheckText (files : List File) (file text : List ℕ) : Type 0 where
  pub packets : List (List ℕ)
  pub found : IsFound files file (Ok packets)
  pub lines : IsTrackText found.bytes packets text

-- the text of a command that was done, by its inputs, and by the outputs before it and after it, where these are told; a cut
-- says nothing
abbrev pub IsTextOf : Form → List File → Option (List File) → Option (List File) → List ℕ → Type 0
IsTextOf (Checking file) files before after text = IsCheckText files file text
IsTextOf (Exporting export) files before after text = IsExportText files export before after text
IsTextOf (Importing import) files before after text = IsImportText files import before after text
IsTextOf (Making make) files before after text = IsMakeText make before after text
IsTextOf (Planning plan) files before after text = IsPlanText files plan text
IsTextOf (Cutting cut) files before after text = text ≡ []

-- this text was said
abbrev pub HasSaid : Meaning → Meaning → List ℕ → Type 0
HasSaid old new came = new.said ≡ option_map (λ text. text ++ came) old.said

-- a line was said: all of it, or a first part where a fault of writing was counted
abbrev pub SaysLine : Meaning → Meaning → List ℕ → Type 0
SaysLine old new line = HasSaid old new line ⊎ ((came : List ℕ) × (rest : List ℕ) × (line ≡ came ++ rest) × HasSaid old new came × Rose old.write_faults new.write_faults)

-- this is a first part of the text of the command, where it was done and left these outputs
abbrev pub IsFirstPart : Meaning → Option (List File) → Form → List ℕ → Type 0
IsFirstPart m outputs form first = (first ≡ []) ⊎ ToldFiles m (λ files. (rest : List ℕ) × IsTextOf form files m.outputs outputs (first ++ rest))

-- a command was refused: it said nothing, but where writing failed a first part of its text
abbrev pub StopsAt : Form → Meaning → Meaning → Status → Type 0
StopsAt form old new WriteFault = (first : List ℕ) × HasSaid old new first × IsFirstPart old new.outputs form first
StopsAt form old new Done = new.said ≡ old.said
StopsAt form old new Usage = new.said ≡ old.said
StopsAt form old new Changed = new.said ≡ old.said
StopsAt form old new SameName = new.said ≡ old.said
StopsAt form old new (BadList line why) = new.said ≡ old.said
StopsAt form old new (Range line) = new.said ≡ old.said
StopsAt form old new (NoFile input) = new.said ≡ old.said
StopsAt form old new (BadSource source what) = new.said ≡ old.said
StopsAt form old new ReadFault = new.said ≡ old.said
StopsAt form old new NoMem = new.said ≡ old.said
StopsAt form old new (TooLong input bytes) = new.said ≡ old.said
StopsAt form old new InPointNotKey = new.said ≡ old.said
StopsAt form old new (BadY4m frame why) = new.said ≡ old.said
StopsAt form old new NotYet = new.said ≡ old.said

-- a command broke off: it said a first part of its text, and then a first part of a line
pub record BreaksOff (old new : Meaning) (form : Form) (line : List ℕ) : Type 0 where
  pub first : List ℕ
  pub came : List ℕ
  pub rest : List ℕ
  pub line_is : line ≡ came ++ rest
  pub said : HasSaid old new (first ++ came)
  pub part : IsFirstPart old new.outputs form first

-- what was said, by the status: the text of a command that was done, or else the line of the status
abbrev pub SaysOn : Form → Meaning → Meaning → Status → Type 0
SaysOn form old new Done = ToldFiles old (λ files. (text : List ℕ) × IsTextOf form files old.outputs new.outputs text × HasSaid old new text)
SaysOn form old new WriteFault = BreaksOff old new form (fault_text WriteFault)
SaysOn form old new NoMem = BreaksOff old new form (fault_text NoMem)
SaysOn form old new Usage = SaysLine old new (fault_text Usage)
SaysOn form old new Changed = SaysLine old new (fault_text Changed)
SaysOn form old new SameName = SaysLine old new (fault_text SameName)
SaysOn form old new (BadList line why) = SaysLine old new (fault_text (BadList line why))
SaysOn form old new (Range line) = SaysLine old new (fault_text (Range line))
SaysOn form old new (NoFile input) = SaysLine old new (fault_text (NoFile input))
SaysOn form old new (BadSource source what) = SaysLine old new (fault_text (BadSource source what))
SaysOn form old new ReadFault = SaysLine old new (fault_text ReadFault)
SaysOn form old new (TooLong input bytes) = SaysLine old new (fault_text (TooLong input bytes))
SaysOn form old new InPointNotKey = SaysLine old new (fault_text InPointNotKey)
SaysOn form old new (BadY4m frame why) = SaysLine old new (fault_text (BadY4m frame why))
SaysOn form old new NotYet = SaysLine old new (fault_text NotYet)
