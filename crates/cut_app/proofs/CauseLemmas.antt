-- The causes of two statuses of a command exclude each other, but for the faults of a desk and want of memory; so where all is
-- given and no fault was counted, a command is done. The top call cites these.
use Rattle.std.proofs.Common.{◌≡◌, ℕ, ◌≤◌, List, length, Option, Some, None, Ok, Err, true, false, inl, inr, ◌⊎◌, refl, ap, sym, ◌∙◌, arith}
use Rattle.std.proofs.lemmas.Bool.{true≢false}
use Rattle.vid_desk.specs.Meaning.{File, Meaning, Rose}
use Rattle.src_index.specs.Judge.{Verdict}
use Rattle.cut_desk.specs.Inputs.{IsAbsent, IsOverlong}
use Rattle.cut_desk.specs.Outputs.{IsCalm}
use Rattle.cut_desk.specs.Statuses.{IsOutside}
use Rattle.cut_desk.proofs.InputLemmas.{not_absent}
use Rattle.cut_slice.proofs.CauseLemmas.{one_status as one_of_cut}
use Rattle.cut_app.proofs.FindingLemmas.{one_finding}
use Rattle.cut_app.proofs.ImportCauseLemmas.{one_of_import}
use Rattle.cut_app.proofs.PlanCauseLemmas.{one_of_plan}
use Rattle.cut_report.specs.declared.status.Status.{Status}
use Rattle.cut_report.specs.declared.status.Status.TheVariants.{Done, Usage, NoFile, BadSource, BadList, Range, ReadFault, WriteFault, NoMem, BadY4m, TooLong, SameName, Changed, InPointNotKey, NotYet}
use Rattle.cut_app.specs.Forms.{Form}
use Rattle.cut_app.specs.Forms.Form.{Checking, Cutting, Exporting, Importing, Making, Planning}
use Rattle.cut_app.specs.Exports.{Export, is_same}
use Rattle.cut_app.specs.Found.{IsFound}
use Rattle.cut_make.specs.Statuses.{IsWriting}
use Rattle.cut_app.specs.Makes.{MakeCaused}
use Rattle.cut_app.specs.Causes.{CausedBy, CheckCaused, ExportCaused, FormCaused, IsOnly, one_source, source_input, what_of}
use Rattle.cut_app.specs.Commands.{Completes, IsGivenAll, Tells}

-- how a check ends that its file brings to its end: it is not there, it has too many bytes, or judging finds this
data End : Type 0 where
  Absent : End
  Overlong : ℕ → End
  Judged : Verdict → End

abbrev IsEnd : List ℕ → List File → End → Type 0
IsEnd file files Absent = IsAbsent files file
IsEnd file files (Overlong size) = IsOverlong files size (source_input file)
IsEnd file files (Judged verdict) = IsFound files file verdict

abbrev status_of : End → Status
status_of Absent = NoFile one_source
status_of (Overlong size) = TooLong one_source size
status_of (Judged (Ok packets)) = Done
status_of (Judged (Err fault)) = BadSource one_source (what_of fault)

-- each status has such an end, but for those that no input is the cause of
end_of : (file : List ℕ) (files : List File) (status : Status) → CheckCaused file files status → IsOutside status ⊎ ((end : End) × IsEnd file files end × (status ≡ status_of end))
end_of file files Done cause = inr (Judged (Ok cause.0), cause.1, refl)
end_of file files (NoFile input) cause = elim cause [
  | inl first ↦ inr (Absent, first.1, ap (λ n. NoFile n) first.0)
  | inr none ↦ absurd none.1
]
end_of file files (BadSource source what) cause = elim cause.1 [
  | inl first ↦ inr (Judged (Err first.1.0), first.1.2, ap (λ n. BadSource n what) first.0 ∙ ap (λ w. BadSource one_source w) first.1.1)
  | inr none ↦ absurd none.1
]
end_of file files (TooLong input size) cause = elim cause.1 [
  | inl first ↦ inr (Overlong size, first.1, ap (λ n. TooLong n size) first.0)
  | inr none ↦ absurd none.1
]
end_of file files Usage cause = absurd cause
end_of file files Changed cause = absurd cause
end_of file files SameName cause = absurd cause
end_of file files (BadList line why) cause = absurd cause
end_of file files (Range line) cause = absurd cause
end_of file files InPointNotKey cause = absurd cause
end_of file files (BadY4m frame why) cause = absurd cause
end_of file files NotYet cause = absurd cause
end_of file files ReadFault cause = inl tt
end_of file files WriteFault cause = inl tt
end_of file files NoMem cause = inl tt

-- a file in which judging finds something is not too long
not_overlong : (files : List File) (file : List ℕ) (v : Verdict) (size : ℕ) → IsFound files file v → IsOverlong files size (source_input file) → ⊥
not_overlong files file v size found long =
    let same : found.bytes ≡ long.0 = cc (found.there, long.1) in
    omega (arith, found.judged.0, long.3, ap length same)

one_size : (files : List File) (file : List ℕ) (size other : ℕ) → IsOverlong files size (source_input file) → IsOverlong files other (source_input file) → size ≡ other
one_size files file size other long next =
    let same : long.0 ≡ next.0 = cc (long.1, next.1) in
    omega (arith, long.2, next.2, ap length same)

-- a check has one end
one_end : (file : List ℕ) (files : List File) (e f : End) → IsEnd file files e → IsEnd file files f → status_of e ≡ status_of f
one_end file files Absent Absent h k = refl
one_end file files Absent (Overlong size) h k = absurd (not_absent files file k.0 k.1 h)
one_end file files Absent (Judged verdict) h k = absurd (not_absent files file k.bytes k.there h)
one_end file files (Overlong size) Absent h k = absurd (not_absent files file h.0 h.1 k)
one_end file files (Overlong size) (Overlong other) h k = ap (λ n. TooLong one_source n) (one_size files file size other h k)
one_end file files (Overlong size) (Judged verdict) h k = absurd (not_overlong files file verdict size k h)
one_end file files (Judged verdict) Absent h k = absurd (not_absent files file h.bytes h.there k)
one_end file files (Judged verdict) (Overlong size) h k = absurd (not_overlong files file verdict size h k)
one_end file files (Judged verdict) (Judged other) h k = ap (λ v. status_of (Judged v)) (one_finding files file verdict other h k)

one_of_check : (file : List ℕ) (files : List File) (a b : Status) → CheckCaused file files a → CheckCaused file files b → IsOutside a ⊎ (IsOutside b ⊎ (a ≡ b))
one_of_check file files a b x y = elim (end_of file files a x) [
  | inl outside ↦ inl outside
  | inr e ↦ elim (end_of file files b y) [
    | inl outside ↦ inr (inl outside)
    | inr f ↦ inr (inr (e.2 ∙ one_end file files e.0 f.0 e.1 f.1 ∙ sym f.2))
  ]
]

-- an export is refused for its names, or ends as a check of its file does, but for what no input is the cause of
parts_of : (export : Export) (files : List File) (status : Status) → ExportCaused export files status
    → IsOutside status ⊎ (((status ≡ SameName) × (is_same export ≡ true)) ⊎ ((is_same export ≡ false) × CheckCaused export.file files status))
parts_of export files Done cause = inr (inr cause)
parts_of export files SameName cause = inr (inl (refl, cause))
parts_of export files (NoFile input) cause = inr (inr cause)
parts_of export files (BadSource source what) cause = inr (inr cause)
parts_of export files (TooLong input size) cause = inr (inr cause)
parts_of export files ReadFault cause = inl tt
parts_of export files WriteFault cause = inl tt
parts_of export files NoMem cause = inl tt
parts_of export files Usage cause = absurd cause
parts_of export files Changed cause = absurd cause
parts_of export files (BadList line why) cause = absurd cause
parts_of export files (Range line) cause = absurd cause
parts_of export files InPointNotKey cause = absurd cause
parts_of export files (BadY4m frame why) cause = absurd cause
parts_of export files NotYet cause = absurd cause

same_and_apart : (export : Export) → is_same export ≡ true → is_same export ≡ false → ⊥
same_and_apart export same apart = true≢false (sym same ∙ apart)

one_of_export : (export : Export) (files : List File) (a b : Status) → ExportCaused export files a → ExportCaused export files b → IsOutside a ⊎ (IsOutside b ⊎ (a ≡ b))
one_of_export export files a b x y = elim (parts_of export files a x) [
  | inl outside ↦ inl outside
  | inr first ↦ elim (parts_of export files b y) [
    | inl outside ↦ inr (inl outside)
    | inr second ↦ elim first [
      | inl same ↦ elim second [
        | inl also ↦ inr (inr (same.0 ∙ sym also.0))
        | inr apart ↦ absurd (same_and_apart export same.1 apart.0)
      ]
      | inr apart ↦ elim second [
        | inl same ↦ absurd (same_and_apart export same.1 apart.0)
        | inr also ↦ one_of_check export.file files a b apart.1 also.1
      ]
    ]
  ]
]

-- making a film is done, or ends so that no input is the cause of it
make_outside : (status : Status) → IsWriting status → IsOutside status
make_outside status broke = elim broke [
  | inl failed ↦ rw failed tt
  | inr none ↦ rw none tt
]

one_of_make : (a b : Status) → MakeCaused a → MakeCaused b → IsOutside a ⊎ (IsOutside b ⊎ (a ≡ b))
one_of_make a b x y = elim x [
  | inl done ↦ elim y [
    | inl also ↦ inr (inr (done ∙ sym also))
    | inr broke ↦ inr (inl (make_outside b broke))
  ]
  | inr broke ↦ inl (make_outside a broke)
]

one_of_form : (form : Form) (files : List File) (a b : Status) → FormCaused form files a → FormCaused form files b → IsOutside a ⊎ (IsOutside b ⊎ (a ≡ b))
one_of_form (Checking file) files a b x y = one_of_check file files a b x y
one_of_form (Exporting export) files a b x y = one_of_export export files a b x y
one_of_form (Importing import) files a b x y = one_of_import import files a b x y
one_of_form (Making make) files a b x y = one_of_make a b x y
one_of_form (Planning plan) files a b x y = one_of_plan plan files a b x y
one_of_form (Cutting cut) files a b x y = one_of_cut cut files a b x y

-- words without a form are Usage, but where no memory was found
one_without_form : (a b : Status) → (a ≡ Usage) ⊎ (a ≡ NoMem) → (b ≡ Usage) ⊎ (b ≡ NoMem) → IsOutside a ⊎ (IsOutside b ⊎ (a ≡ b))
one_without_form a b x y = elim x [
  | inl usage ↦ elim y [
    | inl other ↦ inr (inr (usage ∙ sym other))
    | inr none ↦ inr (inl (rw none tt))
  ]
  | inr none ↦ inl (rw none tt)
]

-- a status with a cause is the only one
pub only : (form : Option Form) (files : List File) (status : Status) → CausedBy form files status → IsOnly form files status
only None files status cause = λ other next. one_without_form status other cause next
only (Some form) files status cause = λ other next. one_of_form form files status other cause next

-- so is one that was told
pub only_told : (mid new : Meaning) (form : Form) (files : List File) (status told : Status) → FormCaused form files status → Tells mid new status told → IsOnly (Some form) files told
only_told mid new form files status told cause tells = elim tells [
  | inl same ↦ rw same.0 (only (Some form) files status cause)
  | inr none ↦ λ other next. inl (rw none.0 tt)
]

-- a status that no input is the cause of is want of memory, where no fault was counted
calm_outside : (old new : Meaning) (status : Status) → IsOutside status → (status ≡ ReadFault → Rose old.read_faults new.read_faults) → (status ≡ WriteFault → Rose old.write_faults new.write_faults)
    → IsCalm old new → (status ≡ Done) ⊎ (status ≡ NoMem)
calm_outside old new ReadFault outside read write calm = absurd (calm.0 (read refl))
calm_outside old new WriteFault outside read write calm = absurd (calm.1 (write refl))
calm_outside old new NoMem outside read write calm = inr refl
calm_outside old new Done outside read write calm = inl refl
calm_outside old new Usage outside read write calm = absurd outside
calm_outside old new Changed outside read write calm = absurd outside
calm_outside old new SameName outside read write calm = absurd outside
calm_outside old new (BadList line why) outside read write calm = absurd outside
calm_outside old new (Range line) outside read write calm = absurd outside
calm_outside old new (NoFile input) outside read write calm = absurd outside
calm_outside old new (BadSource source what) outside read write calm = absurd outside
calm_outside old new (TooLong input size) outside read write calm = absurd outside
calm_outside old new InPointNotKey outside read write calm = absurd outside
calm_outside old new (BadY4m frame why) outside read write calm = absurd outside
calm_outside old new NotYet outside read write calm = absurd outside

-- what a command needs is the cause of its being done
done_of : (form : Form) (files : List File) → IsGivenAll form files → FormCaused form files Done
done_of (Checking file) files given = given
done_of (Exporting export) files given = given
done_of (Importing import) files given = given
done_of (Making make) files given = inl refl
done_of (Planning plan) files given = given
done_of (Cutting cut) files given = given

completes_form : (old new : Meaning) (form : Form) (files : List File) (status : Status) → FormCaused form files status
    → (status ≡ ReadFault → Rose old.read_faults new.read_faults) → (status ≡ WriteFault → Rose old.write_faults new.write_faults)
    → Completes old new (Some form) files status
completes_form old new form files status cause read write = λ given calm. elim (one_of_form form files status Done cause (done_of form files given)) [
  | inl outside ↦ calm_outside old new status outside read write calm
  | inr more ↦ elim more [
    | inl none ↦ absurd none
    | inr same ↦ inl same
  ]
]

-- the same of a status that was told
pub completes_told : (old mid new : Meaning) (form : Form) (files : List File) (status told : Status) → FormCaused form files status
    → (status ≡ ReadFault → Rose old.read_faults mid.read_faults) → (status ≡ WriteFault → Rose old.write_faults mid.write_faults)
    → new ≡ record mid { said = new.said; write_faults = new.write_faults } → mid.write_faults ≤ new.write_faults → Tells mid new status told
    → Completes old new (Some form) files told
completes_told old mid new form files status told cause read write kept later tells =
    let reads : new.read_faults ≡ mid.read_faults = ap {A = Meaning} (λ m. m.read_faults) kept in
    elim tells [
      | inl same ↦ rw same.0 (completes_form old new form files status cause (λ e. rw reads (read e)) (λ e. omega (arith, write e, later)))
      | inr none ↦ λ given calm. inr none.0
    ]
