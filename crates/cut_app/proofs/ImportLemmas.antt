-- What an import leaves and says, by its exits. The command `import` cites these.
use Rattle.std.proofs.Common.{◌≡◌, ℕ, List, Some, Ok, Err, Result, inl, inr, ◌⊎◌, refl, ◌∙◌}
use Rattle.std.specs.Prelude.{take}
use Rattle.vid_desk.specs.Meaning.{File, Meaning, bytes_at, place_of}
use Rattle.y4m_io.specs.declared.fault.Y4mWhy.{Y4mWhy}
use Rattle.y4m_io.specs.HeadLine.{HeadRead, head_in, longest_head}
use Rattle.y4m_io.specs.Reading.{HasBadHead, IsY4m}
use Rattle.cut_desk.specs.Inputs.{contents}
use Rattle.cut_desk.specs.Outputs.{LeavesOutputs}
use Rattle.cut_desk.proofs.InputLemmas.{contents_is}
use Rattle.cut_report.specs.Lines.{imported_text}
use Rattle.cut_report.specs.declared.status.Status.{Status}
use Rattle.cut_report.specs.declared.status.Status.TheVariants.{BadY4m}
use Rattle.cut_import.specs.Imported.{Departs, IsImport}
use Rattle.cut_import.specs.Statuses.{IsImporting}
use Rattle.cut_app.specs.Imports.{HasHead, Import, Imports, IsImportText, IsWhole}
use Rattle.cut_app.specs.Steps.{RefusesFilm}

-- why coding was refused
pub refuses_film : (files : List File) (name : List ℕ) (id : ℕ) (status : Status) → IsImporting status → place_of files name ≡ Some id
    → ((frame : ℕ) (why : Y4mWhy) → status ≡ BadY4m frame why → Departs (bytes_at files id) frame why) → RefusesFilm files name status
refuses_film files name id status only place departs = elim only [
  | inl read ↦ rw read tt
  | inr more ↦ elim more [
    | inl write ↦ rw write tt
    | inr less ↦ elim less [
      | inl none ↦ rw none tt
      | inr bad ↦ rw bad.2 (record { bytes = bytes_at files id; there = contents_is files name id (bytes_at files id) place refl; departs = departs bad.0 bad.1 bad.2 })
    ]
  ]
]

-- a text begins with a head, or departs in it
headed : (files : List File) (name bytes : List ℕ) → contents files name ≡ Some bytes → HasHead files name ⊎ ((why : Y4mWhy) × HasBadHead bytes why)
headed files name bytes there = go (head_in (take longest_head bytes)) refl
  where
    go : (read : Result HeadRead Y4mWhy) → head_in (take longest_head bytes) ≡ read → HasHead files name ⊎ ((why : Y4mWhy) × HasBadHead bytes why)
    go (Ok read) e = inl (record { bytes = bytes; there = there; read = read; head = e })
    go (Err why) e = inr (why, e)

-- nothing was asked of the outputs but where the text begins with a head
pub created_headed : (old mid new : Meaning) (files : List File) (name : List ℕ) (id : ℕ) → LeavesOutputs old mid → place_of files name ≡ Some id
    → ((why : Y4mWhy) → HasBadHead (bytes_at files id) why → LeavesOutputs mid new) → LeavesOutputs old new ⊎ HasHead files name
created_headed old mid new files name id before place leaves = elim (headed files name (bytes_at files id) (contents_is files name id (bytes_at files id) place refl)) [
  | inl head ↦ inr head
  | inr bad ↦
      let after = leaves bad.0 bad.1 in
      inl (after.0 ∙ before.0, after.1 ∙ before.1)
]

-- the text of an import begins with a head
pub head_of : (files : List File) (name : List ℕ) (id qi keys count : ℕ) (written : List ℕ) → place_of files name ≡ Some id → IsImport (bytes_at files id) qi keys count written → HasHead files name
unfolding IsY4m
head_of files name id qi keys count written place film = record {
  bytes = bytes_at files id;
  there = contents_is files name id (bytes_at files id) place refl;
  read = record { head = film.head; size = film.text.0 };
  head = film.text.1;
}

-- the text of an input that was imported is whole
pub whole_of : (old new : Meaning) (import : Import) (files : List File) (count : ℕ) → Imports old new import files count → IsWhole files import.y4m
whole_of old new import files count is = record { bytes = is.film.bytes; there = is.film.there; head = is.film.film.head; pictures = is.film.film.pictures; text = is.film.film.text }

-- a text that is whole begins with a head
pub head_of_whole : (files : List File) (name : List ℕ) → IsWhole files name → HasHead files name
unfolding IsY4m
head_of_whole files name whole = record { bytes = whole.bytes; there = whole.there; read = record { head = whole.head; size = whole.text.0 }; head = whole.text.1 }

-- saying leaves what was imported
pub imports_left : (old mid new : Meaning) (import : Import) (files : List File) (count : ℕ) → LeavesOutputs mid new → Imports old mid import files count → Imports old new import files count
imports_left old mid new import files count left is = record {
  written = is.written;
  film = is.film;
  makes = record { outputs = left.0 ∙ is.makes.outputs; asked_for = left.1 ∙ is.makes.asked_for };
}

-- the text of an import that was done
pub import_text_of : (old mid new : Meaning) (import : Import) (files : List File) (count : ℕ) (text : List ℕ) → LeavesOutputs mid new → Imports old mid import files count → text ≡ imported_text count
    → IsImportText files import old.outputs new.outputs text
import_text_of old mid new import files count text left is line = record {
  count = count;
  written = is.written;
  film = is.film;
  output = left.0 ∙ is.makes.outputs;
  text_is = line;
}
