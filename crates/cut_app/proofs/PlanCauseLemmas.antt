-- The causes of two statuses of a plan exclude each other, but for the faults of a desk and want of memory.
use Rattle.std.proofs.Common.{◌≡◌, ℕ, ◌≤◌, List, [], ◌∷◌, length, All, Result, Some, Ok, Err, inl, inr, ◌⊎◌, refl, ap, sym, ◌∙◌, arith}
use Rattle.std.proofs.lemmas.List.Elements.{All-cons, All-nil}
use Rattle.vid_desk.specs.Meaning.{File}
use Rattle.src_index.specs.Judge.{Verdict}
use Rattle.cut_list.specs.EditList.{BadLine, list_of}
use Rattle.cut_list.specs.Slices.{Slices}
use Rattle.cut_plan.specs.declared.run.Run.{Run}
use Rattle.cut_desk.specs.Inputs.{contents, longest_list, IsMissing, IsThere, IsTooLong, IsWithin}
use Rattle.cut_desk.specs.Statuses.{IsOutside}
use Rattle.cut_desk.proofs.InputLemmas.{none_missing, none_too_long, one_missing, one_too_long, there_of}
use Rattle.cut_report.specs.declared.status.Status.{Status}
use Rattle.cut_report.specs.declared.status.Status.TheVariants.{Done, Usage, NoFile, BadSource, BadList, Range, ReadFault, WriteFault, NoMem, BadY4m, TooLong, SameName, Changed, InPointNotKey, NotYet}
use Rattle.cut_app.specs.Found.{IsFound}
use Rattle.cut_app.specs.Causes.{list_input, one_source, source_input, PlanCaused, what_of}
use Rattle.cut_app.specs.Plans.{IsRead, Plan, plan_over}
use Rattle.cut_app.proofs.FindingLemmas.{one_finding}

-- how a plan ends that its inputs bring to its end: one is not there, one has too many bytes, or judging finds this and the list
-- has these bytes
data End : Type 0 where
  Absent : ℕ → End
  Overlong : ℕ → ℕ → End
  Judged : List ℕ → Verdict → End

record IsJudgedEnd (plan : Plan) (files : List File) (text : List ℕ) (verdict : Verdict) : Type 0 where
  list_is : contents files plan.list ≡ Some text
  short : length text ≤ longest_list
  found : IsFound files plan.source verdict

abbrev IsEnd : Plan → List File → End → Type 0
IsEnd plan files (Absent input) = IsMissing files (plan.list ∷ plan.source ∷ []) input
IsEnd plan files (Overlong input size) = IsTooLong files (list_input plan.list ∷ source_input plan.source ∷ []) input size
IsEnd plan files (Judged text verdict) = IsJudgedEnd plan files text verdict

-- the status that it then has
abbrev planned_status : Result (List Run) ℕ → Status
planned_status (Ok runs) = Done
planned_status (Err line) = Range line

abbrev listed_status : List (List ℕ) → Result Slices BadLine → Status
listed_status packets (Ok slices) = planned_status (plan_over packets slices)
listed_status packets (Err bad) = BadList bad.line bad.why

abbrev status_of : End → Status
status_of (Absent input) = NoFile input
status_of (Overlong input size) = TooLong input size
status_of (Judged text (Err fault)) = BadSource one_source (what_of fault)
status_of (Judged text (Ok packets)) = listed_status packets (list_of text)

read_end : (plan : Plan) (files : List File) (text : List ℕ) (packets : List (List ℕ)) → IsRead files plan text packets → IsJudgedEnd plan files text (Ok packets)
read_end plan files text packets read = record { list_is = read.list_is; short = read.short; found = read.found }

-- each status has such an end, but for those that no input is the cause of
end_of : (plan : Plan) (files : List File) (status : Status) → PlanCaused plan files status → IsOutside status ⊎ ((end : End) × IsEnd plan files end × (status ≡ status_of end))
end_of plan files Done cause =
    let has = cause.1 in
    inr (Judged has.text (Ok has.packets), read_end plan files has.text has.packets has.read, sym (ap (listed_status has.packets) has.listed ∙ ap planned_status has.planned))
end_of plan files (NoFile input) cause = inr (Absent input, cause, refl)
end_of plan files (TooLong input size) cause = inr (Overlong input size, cause, refl)
end_of plan files (BadSource source what) cause = elim cause.1.1 [
  | inl first ↦ inr (
    Judged cause.0.0 (Err first.1.0),
    record { list_is = cause.0.1; short = cause.0.2; found = first.1.2 },
    ap (λ n. BadSource n what) first.0 ∙ ap (λ w. BadSource one_source w) first.1.1,
  )
  | inr none ↦ absurd none.1
]
end_of plan files (BadList line why) cause = inr (Judged cause.0 (Ok cause.1), read_end plan files cause.0 cause.1 cause.2, sym (ap (listed_status cause.1) cause.3))
end_of plan files (Range line) cause = inr (Judged cause.0 (Ok cause.1), read_end plan files cause.0 cause.1 cause.3, sym (ap (listed_status cause.1) cause.4 ∙ ap planned_status cause.5))
end_of plan files Usage cause = absurd cause
end_of plan files SameName cause = absurd cause
end_of plan files Changed cause = absurd cause
end_of plan files InPointNotKey cause = absurd cause
end_of plan files (BadY4m frame why) cause = absurd cause
end_of plan files NotYet cause = absurd cause
end_of plan files ReadFault cause = inl tt
end_of plan files WriteFault cause = inl tt
end_of plan files NoMem cause = inl tt

-- inputs that are judged are there, and within their limits
all_there : (plan : Plan) (files : List File) (text : List ℕ) (verdict : Verdict) → IsJudgedEnd plan files text verdict → All (IsThere files) (plan.list ∷ plan.source ∷ [])
all_there plan files text verdict judged =
    All-cons (IsThere files) plan.list (plan.source ∷ []) (there_of files plan.list text judged.list_is)
    (All-cons (IsThere files) plan.source [] (there_of files plan.source judged.found.bytes judged.found.there) (All-nil (IsThere files)))

all_within : (plan : Plan) (files : List File) (text : List ℕ) (verdict : Verdict) → IsJudgedEnd plan files text verdict → All (IsWithin files) (list_input plan.list ∷ source_input plan.source ∷ [])
all_within plan files text verdict judged =
    All-cons (IsWithin files) (list_input plan.list) (source_input plan.source ∷ []) (text, judged.list_is, judged.short)
    (All-cons (IsWithin files) (source_input plan.source) [] (judged.found.bytes, judged.found.there, judged.found.judged.0) (All-nil (IsWithin files)))

-- inputs of which one is too long are all there
long_there : (plan : Plan) (files : List File) (input size : ℕ) → IsTooLong files (list_input plan.list ∷ source_input plan.source ∷ []) input size → All (IsThere files) (plan.list ∷ plan.source ∷ [])
long_there plan files input size long =
    let inputs = list_input plan.list ∷ source_input plan.source ∷ [] in
    All-cons (IsThere files) plan.list (plan.source ∷ []) (long.0 0 (list_input plan.list) (omega arith))
    (All-cons (IsThere files) plan.source [] (long.0 1 (list_input plan.list) (omega arith)) (All-nil (IsThere files)))

absent_or_judged : (plan : Plan) (files : List File) (input : ℕ) (text : List ℕ) (verdict : Verdict) → IsEnd plan files (Absent input) → IsEnd plan files (Judged text verdict) → ⊥
absent_or_judged plan files input text verdict h k = none_missing files (plan.list ∷ plan.source ∷ []) input (all_there plan files text verdict k) h

absent_or_long : (plan : Plan) (files : List File) (input number size : ℕ) → IsEnd plan files (Absent input) → IsEnd plan files (Overlong number size) → ⊥
absent_or_long plan files input number size h k = none_missing files (plan.list ∷ plan.source ∷ []) input (long_there plan files number size k) h

long_or_judged : (plan : Plan) (files : List File) (input size : ℕ) (text : List ℕ) (verdict : Verdict) → IsEnd plan files (Overlong input size) → IsEnd plan files (Judged text verdict) → ⊥
long_or_judged plan files input size text verdict h k = none_too_long files (list_input plan.list ∷ source_input plan.source ∷ []) input size (all_within plan files text verdict k) h

-- a plan has one end
one_end : (plan : Plan) (files : List File) (e f : End) → IsEnd plan files e → IsEnd plan files f → status_of e ≡ status_of f
one_end plan files (Absent input) (Absent other) h k = ap (λ n. NoFile n) (one_missing files (plan.list ∷ plan.source ∷ []) input other h k)
one_end plan files (Absent input) (Overlong other size) h k = absurd (absent_or_long plan files input other size h k)
one_end plan files (Absent input) (Judged text verdict) h k = absurd (absent_or_judged plan files input text verdict h k)
one_end plan files (Overlong input size) (Absent other) h k = absurd (absent_or_long plan files other input size k h)
one_end plan files (Overlong input size) (Overlong other more) h k =
    let same = one_too_long files (list_input plan.list ∷ source_input plan.source ∷ []) input other size more h k in
    ap (λ n. TooLong n size) same.0 ∙ ap (λ s. TooLong other s) same.1
one_end plan files (Overlong input size) (Judged text verdict) h k = absurd (long_or_judged plan files input size text verdict h k)
one_end plan files (Judged text verdict) (Absent input) h k = absurd (absent_or_judged plan files input text verdict k h)
one_end plan files (Judged text verdict) (Overlong input size) h k = absurd (long_or_judged plan files input size text verdict k h)
one_end plan files (Judged text verdict) (Judged more other) h k =
    let same : text ≡ more = cc (h.list_is, k.list_is) in
    ap (λ t. status_of (Judged t verdict)) same ∙ ap (λ v. status_of (Judged more v)) (one_finding files plan.source verdict other h.found k.found)

pub one_of_plan : (plan : Plan) (files : List File) (a b : Status) → PlanCaused plan files a → PlanCaused plan files b → IsOutside a ⊎ (IsOutside b ⊎ (a ≡ b))
one_of_plan plan files a b x y = elim (end_of plan files a x) [
  | inl outside ↦ inl outside
  | inr e ↦ elim (end_of plan files b y) [
    | inl outside ↦ inr (inl outside)
    | inr f ↦ inr (inr (e.2 ∙ one_end plan files e.0 f.0 e.1 f.1 ∙ sym f.2))
  ]
]
