-- What holds of every plan (own): its runs lie in their sources, a Code run has no key frame, and a Copy run begins at one.
use Rattle.std.specs.Prelude.{◌≡◌, ⊤, ℕ, ◌+◌, ◌<◌, ◌≤◌, true, false, List, [], ◌∷◌, length, slice_index_or, slice_range}
use Rattle.std.specs.List.{list_any}
use Rattle.cut_plan.specs.Forced.{Marks, marks_of}
use Rattle.cut_plan.specs.Spans.{Spans}
use Rattle.cut_plan.specs.Views.{IsSpan}
use Rattle.cut_plan.specs.declared.run.Run.{Run}
use Rattle.cut_plan.specs.declared.run.Run.TheVariants.{Copy, Code}

abbrev pub Runs : Type 0
Runs = List Run

abbrev pub AllMarks : Type 0
AllMarks = List Marks

-- a run has a frame, and lies in its source
abbrev pub IsWithin : AllMarks → ℕ → ℕ → ℕ → Type 0
IsWithin marks src first past = IsSpan marks (record { src = src; first = first; past = past })

-- whether a run is sound
abbrev pub IsSound : AllMarks → Run → Type 0
IsSound marks (Code src first past) = IsWithin marks src first past × (list_any (λ key. key) (slice_range (marks_of marks src) first past) ≡ false)
IsSound marks (Copy src first past) = IsWithin marks src first past × (slice_index_or (marks_of marks src) first false ≡ true)

abbrev pub AreSound : AllMarks → Runs → Type 0
AreSound marks [] = ⊤
AreSound marks (run ∷ runs) = IsSound marks run × AreSound marks runs

-- each joined slice has a frame, and lies in a source
abbrev pub AreSpans : AllMarks → Spans → Type 0
AreSpans marks [] = ⊤
AreSpans marks (span ∷ spans) = IsSpan marks span × AreSpans marks spans

-- each frame of a source stands fewer than `reach` frames behind a key frame
abbrev pub IsNearKeys : ℕ → Marks → Type 0
IsNearKeys reach marks = (n : ℕ) → n < length marks → (k : ℕ) × (k ≤ n) × (n < k + reach) × (slice_index_or marks k false ≡ true)

-- a Code run has at most so many frames
abbrev pub AreShort : ℕ → Runs → Type 0
AreShort reach [] = ⊤
AreShort reach (Code src first past ∷ runs) = (past ≤ first + reach) × AreShort reach runs
AreShort reach (Copy src first past ∷ runs) = AreShort reach runs
