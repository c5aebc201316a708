-- First parts of a text that come to an output. The calls of `maker` and `making` cite these.
use Rattle.std.proofs.Common.{◌≡◌, ◌∙◌, ℕ, ◌≤◌, List, [], ◌++◌, Ok, Err, inl, inr, ap, sym, append_assoc, refl, arith}
use Rattle.std.specs.Result.{IsErrOf}
use Rattle.vid_desk.specs.Meaning.{Appends, Creates, HasCause, Meaning, Rose, with_last}
use Rattle.vid_desk.specs.declared.fault.DeskFault.{DeskFault}
use Rattle.vid_desk.specs.declared.fault.DeskFault.TheVariants.{Failed, NoMem as NoRoom}
use Rattle.cut_report.specs.declared.status.Status.{Status}
use Rattle.cut_report.specs.declared.status.Status.TheVariants.{WriteFault}
use Rattle.cut_desk.specs.Making.{Adds, IsMaking}
use Rattle.cut_desk.specs.Outputs.{Makings}
use Rattle.cut_desk.specs.Statuses.{writing_status}
use Rattle.cut_desk.proofs.MakingLemmas.{adds_none, adds_twice, making_more, makes_of}
use Rattle.cut_make.specs.Films.{MakesPart}
use Rattle.cut_make.specs.Makers.{AddsPart}
use Rattle.cut_make.specs.Statuses.{IsWriting}

-- nothing of it came
pub part_none : (m : Meaning) (id : ℕ) (text : List ℕ) → AddsPart m m id text
part_none m id text = ([], text, refl, adds_none m m id refl (omega arith))

-- what an append left
pub part_of : (old new : Meaning) (id : ℕ) (piece : List ℕ) (fault : DeskFault) → Appends old new id piece (Err fault) → old.write_faults ≤ new.write_faults → AddsPart old new id piece
part_of old new id piece Failed appends later = (appends.0, appends.1, appends.2, record { appended = appends.3; made = ap {A = Meaning} (λ m. m.made) appends.3; later = later })
part_of old new id piece NoRoom appends later = ([], piece, refl, adds_none old new id appends later)

regroup : (a b c d : List ℕ) → (a ++ (b ++ c)) ++ d ≡ (a ++ b) ++ (c ++ d)
regroup a b c d = simp append_assoc

-- a first part of the next piece
pub part_behind : (a b c : Meaning) (id : ℕ) (came piece later all : List ℕ) → Adds a b id came → AddsPart b c id piece → all ≡ (came ++ piece) ++ later → AddsPart a c id all
part_behind a b c id came piece later all first part is = (
  came ++ part.0,
  part.1 ++ later,
  is ∙ ap (λ t. (came ++ t) ++ later) part.2 ∙ regroup came part.0 part.1 later,
  adds_twice a b c id came part.0 first part.3,
)

-- an output was created
pub making_new : (start now : Meaning) (id : ℕ) (name : List ℕ) → Creates start now name (Ok id) → start.write_faults ≤ now.write_faults → IsMaking start now id name []
making_new start now id name creates later = record { outside = creates.0; place = creates.2; room = creates.1; later = later }

-- a first part of a text came to an output that was created
pub making_part : (start now next : Meaning) (id : ℕ) (name bytes all : List ℕ) → IsMaking start now id name bytes → AddsPart now next id all → MakesPart start next name (bytes ++ all)
making_part start now next id name bytes all making part =
    inr (
      bytes ++ part.0,
      part.1,
      ap (λ t. bytes ++ t) part.2 ∙ sym (append_assoc bytes part.0 part.1),
      makes_of start next id name (bytes ++ part.0) (making_more start now next id name bytes part.0 making part.3),
    )

-- nothing but the outputs changed
pub making_same : (start now : Meaning) (id : ℕ) (name bytes : List ℕ) → IsMaking start now id name bytes → Makings start now
making_same start now id name bytes making =
    let outputs : now.outputs ≡ with_last start.outputs (record { name = name; bytes = bytes }) = ap {A = Meaning} (λ m. m.outputs) making.outside in
    let named : now.named ≡ with_last start.named name = ap {A = Meaning} (λ m. m.named) making.outside in
    making.outside
    ∙ ap {B = Meaning} (λ o. record start { outputs = o; named = with_last start.named name; write_faults = now.write_faults; made = now.made }) (sym outputs)
    ∙ ap {B = Meaning} (λ o. record start { outputs = now.outputs; named = o; write_faults = now.write_faults; made = now.made }) (sym named)

-- an output was not created
pub created_none : (old new : Meaning) (name text : List ℕ) (fault : DeskFault) → Creates old new name (Err fault) → MakesPart old new name text
created_none old new name text Failed creates = inl (record { outputs = ap {A = Meaning} (λ m. m.outputs) creates; asked_for = inr (ap {A = Meaning} (λ m. m.named) creates) })
created_none old new name text NoRoom creates = inl (record { outputs = ap {A = Meaning} (λ m. m.outputs) creates; asked_for = inl (ap {A = Meaning} (λ m. m.named) creates) })

-- the statuses of a fault of writing
pub writing_only : (status : Status) (fault : DeskFault) → status ≡ writing_status fault → IsWriting status
writing_only status Failed is = inl is
writing_only status NoRoom is = inr is

pub writing_rose : {A B : Type 0} (before now : ℕ) (status : Status) (fault : DeskFault) → status ≡ writing_status fault → HasCause {A = B} before now (Err fault) → IsErrOf {T = A} (Err status) WriteFault → Rose before now
writing_rose before now status Failed is cause e = cause.failed refl
writing_rose before now status NoRoom is cause e = absurd cc
