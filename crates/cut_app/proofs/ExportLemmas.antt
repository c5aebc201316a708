-- What an export leaves and says, by its exits. The command `export` cites these.
use Rattle.std.proofs.Common.{◌≡◌, ℕ, ◌≤◌, false, List, [], length, Some, Ok, Err, inl, inr, refl, ap, sym, subst, ◌∙◌}
use Rattle.std.specs.Prelude.{⊤, Result}
use Rattle.vid_desk.specs.Meaning.{File, Meaning, Says, bytes_at, with_last}
use Rattle.vid_desk.specs.declared.fault.DeskFault.{DeskFault}
use Rattle.vid_desk.specs.declared.fault.DeskFault.TheVariants.{Failed, NoMem as NoRoom}
use Rattle.src_index.specs.Index.{Index, frame_count}
use Rattle.src_index.specs.Loading.{IsIndexed, IsLoadedFrom, longest}
use Rattle.src_index.specs.Track.{frames_of}
use Rattle.cut_desk.specs.Inputs.{contents}
use Rattle.cut_desk.specs.Outputs.{LeavesOutputs, Looks, Makes, MakesAtMost}
use Rattle.cut_desk.proofs.InputLemmas.{makes_since}
use Rattle.cut_report.specs.Lines.{exported_text}
use Rattle.cut_report.specs.declared.status.Status.{Status}
use Rattle.cut_report.specs.declared.status.Status.TheVariants.{Done, Usage, NoFile, BadSource, BadList, Range, ReadFault, WriteFault, NoMem, BadY4m, TooLong, SameName, Changed, InPointNotKey, NotYet}
use Rattle.cut_export.specs.Exported.{IsExport}
use Rattle.cut_export.specs.Films.{ToldTrack}
use Rattle.cut_export.specs.Statuses.{IsExporting}
use Rattle.cut_export.proofs.FilmLemmas.{count_is}
use Rattle.cut_app.specs.Causes.{CheckCaused, ExportCaused}
use Rattle.cut_app.specs.Exports.{Export, IsExported, IsExportText, LeavesUntil, is_same}
use Rattle.cut_app.specs.Forms.{Form}
use Rattle.cut_app.specs.Found.{IsFound}
use Rattle.cut_app.specs.Index.{HasIndex}
use Rattle.cut_app.specs.Steps.{IsReading}
use Rattle.cut_app.specs.Texts.{StopsAt}
use Rattle.cut_app.proofs.SayingLemmas.{said_nothing}

-- a cause of a check of the file is one of an export of it, where the names are apart
pub export_refused : (export : Export) (files : List File) (status : Status) → is_same export ≡ false → CheckCaused export.file files status → ExportCaused export files status
export_refused export files Done apart cause = (apart, cause)
export_refused export files Usage apart cause = absurd cause
export_refused export files (NoFile input) apart cause = (apart, cause)
export_refused export files (BadSource source what) apart cause = (apart, cause)
export_refused export files (BadList line why) apart cause = absurd cause
export_refused export files (Range line) apart cause = absurd cause
export_refused export files ReadFault apart cause = tt
export_refused export files WriteFault apart cause = tt
export_refused export files NoMem apart cause = tt
export_refused export files (TooLong input size) apart cause = (apart, cause)
export_refused export files SameName apart cause = absurd cause
export_refused export files Changed apart cause = absurd cause
export_refused export files InPointNotKey apart cause = absurd cause
export_refused export files (BadY4m frame why) apart cause = absurd cause
export_refused export files NotYet apart cause = absurd cause

-- outputs that were left are left at each status
pub until_left : (old new : Meaning) (status : Status) → LeavesOutputs old new → LeavesUntil status old new
until_left old new Done left = tt
until_left old new Usage left = left
until_left old new (NoFile input) left = left
until_left old new (BadSource source what) left = left
until_left old new (BadList line why) left = left
until_left old new (Range line) left = left
until_left old new ReadFault left = tt
until_left old new WriteFault left = tt
until_left old new NoMem left = tt
until_left old new (TooLong input size) left = left
until_left old new SameName left = left
until_left old new Changed left = tt
until_left old new InPointNotKey left = left
until_left old new (BadY4m frame why) left = left
until_left old new NotYet left = left

-- the statuses that come while frames are written say nothing of the outputs
pub until_exporting : (old new : Meaning) (status : Status) → IsExporting status → LeavesUntil status old new
until_exporting old new Done only = absurd only
until_exporting old new Usage only = absurd only
until_exporting old new (NoFile input) only = absurd only
until_exporting old new (BadSource source what) only = absurd only
until_exporting old new (BadList line why) only = absurd only
until_exporting old new (Range line) only = absurd only
until_exporting old new ReadFault only = tt
until_exporting old new WriteFault only = tt
until_exporting old new NoMem only = tt
until_exporting old new (TooLong input size) only = absurd only
until_exporting old new SameName only = absurd only
until_exporting old new Changed only = tt
until_exporting old new InPointNotKey only = absurd only
until_exporting old new (BadY4m frame why) only = absurd only
until_exporting old new NotYet only = absurd only

-- they have no cause in the inputs, but for another file, which over inputs that are told never comes
pub export_broken : {A : Type 0} (export : Export) (files : List File) (status : Status) → IsExporting status → ¬ (◌≡◌ {A = Result A Status} (Err status) (Err Changed)) → ExportCaused export files status
export_broken export files Done only never = absurd only
export_broken export files Usage only never = absurd only
export_broken export files (NoFile input) only never = absurd only
export_broken export files (BadSource source what) only never = absurd only
export_broken export files (BadList line why) only never = absurd only
export_broken export files (Range line) only never = absurd only
export_broken export files ReadFault only never = tt
export_broken export files WriteFault only never = tt
export_broken export files NoMem only never = tt
export_broken export files (TooLong input size) only never = absurd only
export_broken export files SameName only never = absurd only
export_broken export files Changed only never = absurd (never (λ i. Err Changed))
export_broken export files InPointNotKey only never = absurd only
export_broken export files (BadY4m frame why) only never = absurd only
export_broken export files NotYet only never = absurd only

-- nothing was said before them
pub exporting_stops : (form : Form) (old new : Meaning) (status : Status) → IsExporting status → new.said ≡ old.said → StopsAt form old new status
exporting_stops form old new Done only same = absurd only
exporting_stops form old new Usage only same = absurd only
exporting_stops form old new (NoFile input) only same = absurd only
exporting_stops form old new (BadSource source what) only same = absurd only
exporting_stops form old new (BadList line why) only same = absurd only
exporting_stops form old new (Range line) only same = absurd only
exporting_stops form old new ReadFault only same = same
exporting_stops form old new WriteFault only same = ([], said_nothing old new same, inl refl)
exporting_stops form old new NoMem only same = same
exporting_stops form old new (TooLong input size) only same = absurd only
exporting_stops form old new SameName only same = absurd only
exporting_stops form old new Changed only same = same
exporting_stops form old new InPointNotKey only same = absurd only
exporting_stops form old new (BadY4m frame why) only same = absurd only
exporting_stops form old new NotYet only same = absurd only

-- nor before those that come while the file is looked for and judged
pub reading_stops : (form : Form) (old new : Meaning) (status : Status) → IsReading status → new.said ≡ old.said → StopsAt form old new status
reading_stops form old new Done only same = absurd only
reading_stops form old new Usage only same = absurd only
reading_stops form old new (NoFile input) only same = same
reading_stops form old new (BadSource source what) only same = same
reading_stops form old new (BadList line why) only same = same
reading_stops form old new (Range line) only same = same
reading_stops form old new ReadFault only same = same
reading_stops form old new WriteFault only same = absurd only
reading_stops form old new NoMem only same = same
reading_stops form old new (TooLong input size) only same = same
reading_stops form old new SameName only same = absurd only
reading_stops form old new Changed only same = absurd only
reading_stops form old new InPointNotKey only same = absurd only
reading_stops form old new (BadY4m frame why) only same = absurd only
reading_stops form old new NotYet only same = absurd only

-- looking at inputs leaves the outputs
pub looks_left : (old new : Meaning) → Looks old new → LeavesOutputs old new
looks_left old new looks = (ap {A = Meaning} (λ m. m.outputs) looks, ap {A = Meaning} (λ m. m.named) looks)

-- what was made at most since then was made at most since before
pub most_since : (old mid new : Meaning) (name : List ℕ) → Looks old mid → MakesAtMost mid new name → MakesAtMost old new name
most_since old mid new name looks most =
    let outputs : mid.outputs ≡ old.outputs = ap {A = Meaning} (λ m. m.outputs) looks in
    let named : mid.named ≡ old.named = ap {A = Meaning} (λ m. m.named) looks in
    elim most [
      | inl none ↦ inl (record {
        outputs = none.outputs ∙ outputs;
        asked_for = elim none.asked_for [
          | inl same ↦ inl (same ∙ named)
          | inr more ↦ inr (more ∙ ap (λ told. with_last told name) named)
        ];
      })
      | inr made ↦ inr (made.0, makes_since old mid new name made.0 looks made.1)
    ]

-- saying leaves the outputs
pub says_left : (mid new : Meaning) (text : List ℕ) (result : Result ⊤ DeskFault) → Says mid new text result → LeavesOutputs mid new
says_left mid new text (Ok _) said = (ap {A = Meaning} (λ m. m.outputs) said, ap {A = Meaning} (λ m. m.named) said)
says_left mid new text (Err Failed) said = (ap {A = Meaning} (λ m. m.outputs) said.3, ap {A = Meaning} (λ m. m.named) said.3)
says_left mid new text (Err NoRoom) said = (ap {A = Meaning} (λ m. m.outputs) said, ap {A = Meaning} (λ m. m.named) said)

pub most_left : (old mid new : Meaning) (name : List ℕ) → LeavesOutputs mid new → MakesAtMost old mid name → MakesAtMost old new name
most_left old mid new name left most = elim most [
  | inl none ↦ inl (record {
    outputs = left.0 ∙ none.outputs;
    asked_for = elim none.asked_for [
      | inl same ↦ inl (left.1 ∙ same)
      | inr more ↦ inr (left.1 ∙ more)
    ];
  })
  | inr made ↦ inr (made.0, record { outputs = left.0 ∙ made.1.outputs; asked_for = left.1 ∙ made.1.asked_for })
]

-- the file of an index that was read
found_of : (files : List File) (file : List ℕ) (index : Index) → HasIndex files file index → contents files file ≡ Some (bytes_at files index.input) → (indexed : IsIndexed (bytes_at files index.input) index) → IsFound files file (Ok indexed.packets)
found_of files file index read there indexed =
    let same : read.bytes ≡ bytes_at files index.input = cc (read.there, there) in
    record { bytes = bytes_at files index.input; there = there; judged = (subst (λ (b : List ℕ). length b ≤ longest) same read.short, indexed.judged) }

-- what is known once the frames were written
pub record Written (old new : Meaning) (files : List File) (export : Export) (index : Index) : Type 0 where
  pub exported : IsExported old new export files
  pub count : length (frames_of exported.packets) ≡ frame_count index

pub written_by : (old mid new : Meaning) (files : List File) (export : Export) (index : Index) → Looks old mid → old.inputs ≡ Some files → HasIndex files export.file index → contents files export.file ≡ Some (bytes_at files index.input)
    → IsLoadedFrom mid index.input index → ToldTrack mid index.input (λ packets. (text : List ℕ) × IsExport packets text × Makes mid new export.out text) → Written old new files export index
written_by old mid new files export index looks told read there loaded wrote =
    let after : mid.inputs ≡ Some files = ap {A = Meaning} (λ m. m.inputs) looks ∙ told in
    let indexed = loaded.1 files after in
    let pictures = wrote files after indexed.packets indexed.judged in
    record {
      exported = record {
        packets = indexed.packets;
        written = pictures.0;
        found = found_of files export.file index read there indexed;
        pictures = pictures.1;
        makes = makes_since old mid new export.out pictures.0 looks pictures.2;
      };
      count = count_is (bytes_at files index.input) indexed.packets index indexed.index_of;
    }

-- saying leaves what was written
pub exported_left : (old mid new : Meaning) (files : List File) (export : Export) → LeavesOutputs mid new → IsExported old mid export files → IsExported old new export files
exported_left old mid new files export left is = record {
  packets = is.packets;
  written = is.written;
  found = is.found;
  pictures = is.pictures;
  makes = record { outputs = left.0 ∙ is.makes.outputs; asked_for = left.1 ∙ is.makes.asked_for };
}

-- the text of an export that was done
pub text_of : (old mid new : Meaning) (files : List File) (export : Export) (index : Index) (text : List ℕ) → LeavesOutputs mid new → Written old mid files export index → text ≡ exported_text (frame_count index) → IsExportText files export old.outputs new.outputs text
text_of old mid new files export index text left is line = record {
  packets = is.exported.packets;
  written = is.exported.written;
  found = is.exported.found;
  pictures = is.exported.pictures;
  output = left.0 ∙ is.exported.makes.outputs;
  text_is = line ∙ ap exported_text (sym is.count);
}
