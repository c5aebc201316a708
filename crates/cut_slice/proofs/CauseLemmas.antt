-- The causes of two statuses of a cut exclude each other, but for the faults of a desk and want of memory. The top call cites
-- `one_status`.
use Rattle.std.proofs.Common.{◌≡◌, ℕ, ◌∷◌, List, [], Bool, true, false, inl, inr, ◌⊎◌, refl, ap, sym, ◌∙◌}
use Rattle.vid_desk.specs.Meaning.{File}
use Rattle.ogg_link.specs.Track.{is_key}
use Rattle.cut_desk.specs.Inputs.{IsAbsent, IsMissing, IsThere}
use Rattle.cut_desk.specs.Statuses.{IsOutside}
use Rattle.cut_desk.proofs.InputLemmas.{one_first, there_or_absent}
use Rattle.cut_slice.specs.SliceList.{Slice}
use Rattle.cut_slice.specs.Plain.{Packets}
use Rattle.cut_slice.specs.Words.{Cut, clashes}
use Rattle.cut_slice.specs.Cause.{Caused, IsGiven, IsReady, NotCovered, in_point}
use Rattle.cut_slice.proofs.CuttingLemmas.{not_covered, given_not_missing, one_cut}
use Rattle.cut_report.specs.declared.status.Status.{Status}
use Rattle.cut_report.specs.declared.status.Status.TheVariants.{Done, Usage, NoFile, BadSource, BadList, Range, ReadFault, WriteFault, NoMem, BadY4m, TooLong, SameName, Changed, InPointNotKey, NotYet}

-- how a cut ends that inputs bring to its end: names that clash, an input that is not there, inputs that are not covered, and
-- inputs that are ready, whose slice begins at a key frame or not
data End : Type 0 where
  Clashing : End
  Lacking : ℕ → End
  Uncovered : End
  Ready : Bool → End

abbrev IsEnd : Cut → List File → End → Type 0
IsEnd cut files Clashing = clashes cut ≡ true
IsEnd cut files (Lacking input) = (clashes cut ≡ false) × IsMissing files (cut.list ∷ cut.source ∷ []) input
IsEnd cut files Uncovered = (list : List ℕ) × (source : List ℕ) × IsGiven cut files list source × NotCovered list source
IsEnd cut files (Ready key) = (slice : Slice) × (packets : Packets) × IsReady cut files slice packets × (is_key (in_point slice packets) ≡ key)

abbrev status_of : End → Status
status_of Clashing = NotYet
status_of (Lacking input) = NoFile input
status_of Uncovered = NotYet
status_of (Ready true) = Done
status_of (Ready false) = InPointNotKey

-- each status has such an end, but for those that no input is the cause of
end_of : (cut : Cut) (files : List File) (status : Status) → Caused cut files status → IsOutside status ⊎ ((end : End) × IsEnd cut files end × (status ≡ status_of end))
end_of cut files Done cause = inr (Ready true, cause, refl)
end_of cut files InPointNotKey cause = inr (Ready false, cause, refl)
end_of cut files NotYet cause = elim cause [
  | inl clash ↦ inr (Clashing, clash, refl)
  | inr given ↦ inr (Uncovered, given, refl)
]
end_of cut files (NoFile input) cause = inr (Lacking input, cause, refl)
end_of cut files Usage cause = absurd cause
end_of cut files Changed cause = absurd cause
end_of cut files (BadY4m frame why) cause = absurd cause
end_of cut files SameName cause = absurd cause
end_of cut files (BadList line why) cause = absurd cause
end_of cut files (Range line) cause = absurd cause
end_of cut files (BadSource source what) cause = absurd cause
end_of cut files (TooLong input bytes) cause = absurd cause
end_of cut files ReadFault cause = inl tt
end_of cut files WriteFault cause = inl tt
end_of cut files NoMem cause = inl tt

clash : {A : Type 0} (cut : Cut) → clashes cut ≡ true → clashes cut ≡ false → A
clash cut h k = cc

-- a cut has one end
one_end : (cut : Cut) (files : List File) (e f : End) → IsEnd cut files e → IsEnd cut files f → status_of e ≡ status_of f
one_end cut files Clashing Clashing h k = refl
one_end cut files Clashing (Lacking input) h k = clash cut h k.0
one_end cut files Clashing Uncovered h k = clash cut h k.2.apart
one_end cut files Clashing (Ready key) h k = clash cut h k.2.given.apart
one_end cut files (Lacking input) Clashing h k = clash cut k h.0
one_end cut files (Lacking input) (Lacking other) h k =
    ap (λ n. NoFile n) (one_first (IsThere files) (IsAbsent files) (λ name there absent. there_or_absent files name there absent) 1 (cut.list ∷ cut.source ∷ []) input other h.1 k.1)
one_end cut files (Lacking input) Uncovered h k = absurd (given_not_missing cut files k.0 k.1 input k.2 h.1)
one_end cut files (Lacking input) (Ready key) h k = absurd (given_not_missing cut files k.2.list k.2.source input k.2.given h.1)
one_end cut files Uncovered Clashing h k = clash cut k h.2.apart
one_end cut files Uncovered (Lacking input) h k = absurd (given_not_missing cut files h.0 h.1 input h.2 k.1)
one_end cut files Uncovered Uncovered h k = refl
one_end cut files Uncovered (Ready key) h k = absurd (not_covered cut files k.0 k.1 h.0 h.1 k.2 h.2.list_is h.2.source_is h.3)
one_end cut files (Ready key) Clashing h k = clash cut k h.2.given.apart
one_end cut files (Ready key) (Lacking input) h k = absurd (given_not_missing cut files h.2.list h.2.source input h.2.given k.1)
one_end cut files (Ready key) Uncovered h k = absurd (not_covered cut files h.0 h.1 k.0 k.1 h.2 k.2.list_is k.2.source_is k.3)
one_end cut files (Ready key) (Ready other) h k =
    let same = one_cut cut files h.0 k.0 h.1 k.1 h.2 k.2 in
    let keys : is_key (in_point k.0 k.1) ≡ key = rw (same.0, same.1) at h.3 in
    ap (λ b. status_of (Ready b)) (sym keys ∙ k.3)

-- two statuses with causes are the same, but for those that no input is the cause of
pub one_status : (cut : Cut) (files : List File) (a b : Status) → Caused cut files a → Caused cut files b → IsOutside a ⊎ (IsOutside b ⊎ (a ≡ b))
one_status cut files a b x y = elim (end_of cut files a x) [
  | inl outside ↦ inl outside
  | inr e ↦ elim (end_of cut files b y) [
    | inl outside ↦ inr (inl outside)
    | inr f ↦ inr (inr (e.2 ∙ one_end cut files e.0 f.0 e.1 f.1 ∙ sym f.2))
  ]
]
