-- What is left where an output could not be created, and counts and statuses of calls one after another. `write_film` and `import` cite these.
use Rattle.std.proofs.Common.{◌≡◌, ◌∙◌, ℕ, ◌≤◌, ◌⊎◌, List, Option, Result, Ok, Err, ap, arith, inl, inr, refl, subst}
use Rattle.std.specs.Result.{IfOk, IsErrOf, OnErr}
use Rattle.vid_desk.specs.Meaning.{Creates, HasCause, Meaning, Rose, with_last, with_reads}
use Rattle.vid_desk.specs.declared.fault.DeskFault.{DeskFault}
use Rattle.vid_desk.specs.declared.fault.DeskFault.TheVariants.{Failed, NoMem as NoRoom}
use Rattle.ogg_mux.specs.Muxing.{rest_of}
use Rattle.cut_report.specs.declared.status.Status.{Status}
use Rattle.cut_report.specs.declared.status.Status.TheVariants.{BadY4m, ReadFault, WriteFault}
use Rattle.cut_desk.specs.Growing.{ReadsAndMakes}
use Rattle.cut_desk.specs.Outputs.{MakesAtMost, MakesNone}
use Rattle.cut_desk.specs.Statuses.{writing_status}
use Rattle.y4m_io.specs.declared.fault.Y4mWhy.{Y4mWhy}
use Rattle.y4m_io.specs.Progress.{Progress}
use Rattle.cut_import.specs.declared.importer.Importer.{Importer}
use Rattle.cut_import.specs.Importers.{LeavesFirst, WritesFilm}
use Rattle.cut_import.specs.Statuses.{IsImporting}
use Rattle.cut_import.proofs.FollowLemmas.{makes_reads}

-- a count that rose later rose
pub rose_later : (first mid last : ℕ) → first ≤ mid → Rose mid last → Rose first last
rose_later first mid last later rose = omega (arith, later, rose)

pub rose_since : {A B : Type 0} (first mid last : ℕ) (status what : Status) → first ≤ mid → (IsErrOf {T = B} (Err status) what → Rose mid last) → IsErrOf {T = A} (Err status) what → Rose first last
rose_since first mid last status what later rose e =
    let is : status ≡ what = cc in
    rose_later first mid last later (rose (ap Err is))

-- what changed behind reads is what changed since them
pub reads_same : (old mid new : Meaning) → with_reads old mid → ReadsAndMakes mid new → ReadsAndMakes old new
reads_same old mid new kept same =
    subst (λ (m : Meaning). new ≡ record m { outputs = new.outputs; named = new.named; read_faults = new.read_faults; write_faults = new.write_faults; asked = new.asked; made = new.made }) kept same

-- an output that could not be created
pub none_same : (mid new : Meaning) (name : List ℕ) (fault : DeskFault) → Creates mid new name (Err fault) → ReadsAndMakes mid new
none_same mid new name Failed made = rw (ap {A = Meaning} (λ m. m.inputs) made, ap {A = Meaning} (λ m. m.outputs) made, ap {A = Meaning} (λ m. m.said) made, ap {A = Meaning} (λ m. m.sought) made, ap {A = Meaning} (λ m. m.named) made, ap {A = Meaning} (λ m. m.read_faults) made, ap {A = Meaning} (λ m. m.asked) made, ap {A = Meaning} (λ m. m.found) made) refl
none_same mid new name NoRoom made = rw (ap {A = Meaning} (λ m. m.inputs) made, ap {A = Meaning} (λ m. m.outputs) made, ap {A = Meaning} (λ m. m.said) made, ap {A = Meaning} (λ m. m.sought) made, ap {A = Meaning} (λ m. m.named) made, ap {A = Meaning} (λ m. m.read_faults) made, ap {A = Meaning} (λ m. m.asked) made, ap {A = Meaning} (λ m. m.found) made) refl

pub none_made : (mid new : Meaning) (name : List ℕ) (fault : DeskFault) → Creates mid new name (Err fault) → MakesNone mid new name
none_made mid new name Failed made = record { outputs = ap {A = Meaning} (λ m. m.outputs) made; asked_for = inr (ap {A = Meaning} (λ m. m.named) made) }
none_made mid new name NoRoom made = record { outputs = ap {A = Meaning} (λ m. m.outputs) made; asked_for = inl (ap {A = Meaning} (λ m. m.named) made) }

-- which reads nothing
pub none_read : (mid new : Meaning) (name : List ℕ) (fault : DeskFault) → Creates mid new name (Err fault) → new.read_faults ≡ mid.read_faults
none_read mid new name Failed made = ap {A = Meaning} (λ m. m.read_faults) made
none_read mid new name NoRoom made = ap {A = Meaning} (λ m. m.read_faults) made

-- the status of a fault of writing, which is no other
pub writing_only : (status : Status) (fault : DeskFault) → status ≡ writing_status fault → IsImporting status
writing_only status Failed is = inr (inl is)
writing_only status NoRoom is = inr (inr (inl is))

pub writing_not_read : {A : Type 0} (status : Status) (fault : DeskFault) → status ≡ writing_status fault → IsErrOf {T = A} (Err status) ReadFault → ⊥
writing_not_read status Failed is e = cc
writing_not_read status NoRoom is e = cc

pub writing_not_bad : {A : Type 0} (status : Status) (fault : DeskFault) (frame : ℕ) (why : Y4mWhy) → status ≡ writing_status fault → IsErrOf {T = A} (Err status) (BadY4m frame why) → ⊥
writing_not_bad status Failed frame why is e = cc
writing_not_bad status NoRoom frame why is e = cc

pub writing_rose : {A B : Type 0} (before now : ℕ) (status : Status) (fault : DeskFault) → status ≡ writing_status fault → HasCause {A = B} before now (Err fault) → IsErrOf {T = A} (Err status) WriteFault → Rose before now
writing_rose before now status Failed is cause e = cause.failed refl
writing_rose before now status NoRoom is cause e = absurd cc

-- what was left of outputs since inputs were read
pub none_reads : (old mid new : Meaning) (name : List ℕ) → with_reads old mid → MakesNone mid new name → MakesNone old new name
none_reads old mid new name kept none = record {
  outputs = none.outputs ∙ ap {A = Meaning} (λ m. m.outputs) kept;
  asked_for = subst (λ (names : Option (List (List ℕ))). (new.named ≡ names) ⊎ (new.named ≡ with_last names name)) (ap {A = Meaning} (λ m. m.named) kept) none.asked_for;
}

-- at most one output was created since then
pub at_most : (old mid new : Meaning) (name : List ℕ) (i : Importer) (p : Progress) (result : Result ℕ Status) → with_reads old mid → IfOk result (WritesFilm mid new name i p) → OnErr result (LeavesFirst mid new name i p) → MakesAtMost old new name
at_most old mid new name i p (Ok count) kept film left = inr (rest_of i.mux film.packets, makes_reads old mid new name (rest_of i.mux film.packets) kept film.makes)
at_most old mid new name i p (Err status) kept film (inl none) = inl (none_reads old mid new name kept none)
at_most old mid new name i p (Err status) kept film (inr first) = inr (first.came, makes_reads old mid new name first.came kept first.makes)
