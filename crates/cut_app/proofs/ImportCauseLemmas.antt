-- The causes of two statuses of an import exclude each other, but for the faults of a desk and want of memory. The causes of
-- commands cite this.
use Rattle.std.proofs.Common.{◌≡◌, ℕ, List, Some, None, Err, Result, true, false, inl, inr, ◌⊎◌, refl, ap, sym, subst, ◌∙◌}
use Rattle.std.proofs.lemmas.Bool.{true≢false}
use Rattle.vid_desk.specs.Meaning.{File}
use Rattle.y4m_io.specs.declared.fault.Y4mWhy.{Y4mWhy}
use Rattle.y4m_io.specs.HeadLine.{HeadRead}
use Rattle.y4m_io.specs.Reading.{Departure, IsY4m}
use Rattle.y4m_io.proofs.ReadingLemmas.{no_stream, one_stream}
use Rattle.cut_desk.specs.Inputs.{IsAbsent}
use Rattle.cut_desk.specs.Statuses.{IsOutside}
use Rattle.cut_desk.proofs.InputLemmas.{not_absent}
use Rattle.cut_import.specs.Imported.{Departs}
use Rattle.cut_report.specs.declared.status.Status.{Status}
use Rattle.cut_report.specs.declared.status.Status.TheVariants.{Done, Usage, NoFile, BadSource, BadList, Range, ReadFault, WriteFault, NoMem, BadY4m, TooLong, SameName, Changed, InPointNotKey, NotYet}
use Rattle.cut_app.specs.Causes.{ImportCaused}
use Rattle.cut_app.specs.Imports.{DepartsAt, Import, IsWhole, is_over}

-- how an import ends that its input brings to its end: it is not there, its text is whole, or departs there first
data End : Type 0 where
  Absent : End
  Whole : End
  Departed : ℕ → Y4mWhy → End

abbrev IsEnd : List File → List ℕ → End → Type 0
IsEnd files name Absent = IsAbsent files name
IsEnd files name Whole = IsWhole files name
IsEnd files name (Departed frame why) = DepartsAt files name frame why

abbrev status_of : End → Status
status_of Absent = NoFile 1
status_of Whole = Done
status_of (Departed frame why) = BadY4m frame why

-- the names are apart, and the status is that of such an end
abbrev Ends : Import → List File → Status → Type 0
Ends import files status = (is_over import ≡ false) × ((end : End) × IsEnd files import.y4m end × (status ≡ status_of end))

-- an import is refused for its names, or ends so, but for what no input is the cause of
parts_of : (import : Import) (files : List File) (status : Status) → ImportCaused import files status → IsOutside status ⊎ (((status ≡ SameName) × (is_over import ≡ true)) ⊎ Ends import files status)
parts_of import files Done cause = inr (inr (cause.0, (Whole, cause.1, refl)))
parts_of import files SameName cause = inr (inl (refl, cause))
parts_of import files (NoFile input) cause = elim cause.1 [
  | inl first ↦ inr (inr (cause.0, (Absent, first.1, ap (λ n. NoFile n) first.0)))
  | inr none ↦ absurd none.1
]
parts_of import files (BadY4m frame why) cause = inr (inr (cause.0, (Departed frame why, cause.1, refl)))
parts_of import files ReadFault cause = inl tt
parts_of import files WriteFault cause = inl tt
parts_of import files NoMem cause = inl tt
parts_of import files Usage cause = absurd cause
parts_of import files (BadSource source what) cause = absurd cause
parts_of import files (BadList line why) cause = absurd cause
parts_of import files (Range line) cause = absurd cause
parts_of import files (TooLong input size) cause = absurd cause
parts_of import files Changed cause = absurd cause
parts_of import files InPointNotKey cause = absurd cause
parts_of import files NotYet cause = absurd cause

-- a text that is whole departs nowhere
whole_or_departs : (files : List File) (name : List ℕ) (frame : ℕ) (why : Y4mWhy) → IsWhole files name → DepartsAt files name frame why → ⊥
whole_or_departs files name frame why whole at =
    let same : whole.bytes ≡ at.bytes = cc (whole.there, at.there) in
    let text = subst (λ (bytes : List ℕ). IsY4m bytes whole.head whole.pictures None) same whole.text in
    elim at.departs [
      | inl head ↦ no_stream at.bytes why whole.head whole.pictures None head.1 text
      | inr later ↦ let differ = (one_stream at.bytes whole.head later.0 whole.pictures later.1 None (Some (record { frame = frame; why = why })) text later.2).2 in cc
    ]

-- a text departs first in one place, for one why
one_departure : (bytes : List ℕ) (f g : ℕ) (v w : Y4mWhy) → Departs bytes f v → Departs bytes g w → (f ≡ g) × (v ≡ w)
one_departure bytes f g v w a b =
    let first : Departure = record { frame = f; why = v } in
    let second : Departure = record { frame = g; why = w } in
    elim a [
      | inl head ↦ elim b [
        | inl also ↦
            let fault : ◌≡◌ {A = Result HeadRead Y4mWhy} (Err v) (Err w) = sym head.1 ∙ also.1 in
            (head.0 ∙ sym also.0, cc)
        | inr later ↦ absurd (no_stream bytes v later.0 later.1 (Some second) head.1 later.2)
      ]
      | inr one ↦ elim b [
        | inl head ↦ absurd (no_stream bytes w one.0 one.1 (Some first) head.1 one.2)
        | inr other ↦
            let same = (one_stream bytes one.0 other.0 one.1 other.1 (Some first) (Some second) one.2 other.2).2 in
            let there : first ≡ second = cc in
            (ap (λ (d : Departure). d.frame) there, ap (λ (d : Departure). d.why) there)
      ]
    ]

-- an import has one end
one_end : (files : List File) (name : List ℕ) (e f : End) → IsEnd files name e → IsEnd files name f → status_of e ≡ status_of f
one_end files name Absent Absent h k = refl
one_end files name Absent Whole h k = absurd (not_absent files name k.bytes k.there h)
one_end files name Absent (Departed frame why) h k = absurd (not_absent files name k.bytes k.there h)
one_end files name Whole Absent h k = absurd (not_absent files name h.bytes h.there k)
one_end files name Whole Whole h k = refl
one_end files name Whole (Departed frame why) h k = absurd (whole_or_departs files name frame why h k)
one_end files name (Departed frame why) Absent h k = absurd (not_absent files name h.bytes h.there k)
one_end files name (Departed frame why) Whole h k = absurd (whole_or_departs files name frame why k h)
one_end files name (Departed f v) (Departed g w) h k =
    let same : h.bytes ≡ k.bytes = cc (h.there, k.there) in
    let one = one_departure k.bytes f g v w (subst (λ (bytes : List ℕ). Departs bytes f v) same h.departs) k.departs in
    ap (λ n. BadY4m n v) one.0 ∙ ap (λ x. BadY4m g x) one.1

same_and_apart : (import : Import) → is_over import ≡ true → is_over import ≡ false → ⊥
same_and_apart import same apart = true≢false (sym same ∙ apart)

pub one_of_import : (import : Import) (files : List File) (a b : Status) → ImportCaused import files a → ImportCaused import files b → IsOutside a ⊎ (IsOutside b ⊎ (a ≡ b))
one_of_import import files a b x y = elim (parts_of import files a x) [
  | inl outside ↦ inl outside
  | inr first ↦ elim (parts_of import files b y) [
    | inl outside ↦ inr (inl outside)
    | inr second ↦ elim first [
      | inl same ↦ elim second [
        | inl also ↦ inr (inr (same.0 ∙ sym also.0))
        | inr apart ↦ absurd (same_and_apart import same.1 apart.0)
      ]
      | inr apart ↦ elim second [
        | inl same ↦ absurd (same_and_apart import same.1 apart.0)
        | inr also ↦ inr (inr (apart.1.2 ∙ one_end files import.y4m apart.1.0 also.1.0 apart.1.1 also.1.1 ∙ sym also.1.2))
      ]
    ]
  ]
]
