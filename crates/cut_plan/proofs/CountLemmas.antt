-- How many frames the runs of a plan have. The law of plans cites this.
use Rattle.std.proofs.Common.{◌≡◌, ℕ, ◌+◌, ◌-◌, ◌≤◌, Bool, true, false, List, [], ◌∷◌, length, map, Option, Some, None, Ok, refl, ap, sym, ◌∙◌, arith}
use Rattle.std.specs.Prelude.{◌==◌, ◌&&◌}
use Rattle.std.specs.List.{range_with_len}
use Rattle.std.proofs.lemmas.List.{length-append, length-map}
use Rattle.std.proofs.lemmas.List.FromFn.{length-range_with_len}
use Rattle.cut_list.specs.Slices.{Slices, slices_view}
use Rattle.cut_list.specs.declared.list.Slice.{Slice as SliceStruct}
use Rattle.cut_plan.specs.Forced.{Planned, is_forced, marks_of, planned, planned_in}
use Rattle.cut_plan.specs.Range.{first_outside, is_inside}
use Rattle.cut_plan.specs.Runs.{all_runs, coded_by, copied_by, frames_coded, frames_copied, or_line, plan_of, planned_by, planned_by_runs}
use Rattle.cut_plan.specs.Sound.{AllMarks, Runs}
use Rattle.cut_plan.specs.Spans.{Frame, Spans, all_frames, frames_of, joined, span_of, spans_of}
use Rattle.cut_plan.specs.declared.run.Run.{Run}
use Rattle.cut_plan.specs.declared.run.Run.TheVariants.{Copy, Code}
use Rattle.cut_plan.proofs.FrameLemmas.{joined-frames}
use Rattle.cut_plan.proofs.LawLemmas.{plan-planned}
use Rattle.cut_plan.proofs.RangeLemmas.{first_outside-inside, first_outside-outside, inside-few}

-- as many as there are numbers in the row
told-all : {A : Type 0} (f : ℕ → A) (a k : ℕ) → length (map f (range_with_len a k)) ≡ k
told-all f a k = length-map (range_with_len a k) f ∙ length-range_with_len a k

run-frames : (run : Run) → length (planned_by run) ≡ copied_by run + coded_by run
unfolding planned_by
run-frames (Copy src first past) = told-all {A = Planned} (λ n. record { src = src; n = n; coded = false; key = false }) first (past - first) ∙ omega arith
run-frames (Code src first past) = told-all {A = Planned} (λ n. record { src = src; n = n; coded = true; key = n == first }) first (past - first) ∙ omega arith

runs-frames : (runs : Runs) → length (planned_by_runs runs) ≡ frames_copied runs + frames_coded runs
runs-frames [] = refl
runs-frames (run ∷ runs) = omega (arith, length-append (planned_by run) (planned_by_runs runs), run-frames run, runs-frames runs)

-- each frame of a joined slice is planned once
spans-frames : (marks : AllMarks) (spans : Spans) → length (planned marks spans) ≡ length (all_frames spans)
unfolding planned_in frames_of
spans-frames marks [] = refl
spans-frames marks (span ∷ spans) =
    let one = told-all {A = Planned} (λ n. record { src = span.src; n = n; coded = is_forced (marks_of marks span.src) span n; key = is_forced (marks_of marks span.src) span n && n == span.first }) span.first (span.past - span.first) in
    let other : length (frames_of span) ≡ span.past - span.first = told-all {A = Frame} (λ n. record { src = span.src; n = n }) span.first (span.past - span.first) in
    omega (arith, length-append (planned_in (marks_of marks span.src) span) (planned marks spans), length-append (frames_of span) (all_frames spans), one, other, spans-frames marks spans)

-- slices in range have no more frames than a list may have
slices-few : (counts : List ℕ) (n : ℕ) (slices : Slices) → n ≤ 16777216 → first_outside counts n slices ≡ None → n + length (all_frames (spans_of slices)) ≤ 16777216
unfolding frames_of
slices-few counts n [] few none = omega (arith, few)
slices-few counts n (slice ∷ slices) few none = go (is_inside counts n slice) refl (slices-few counts (n + (slice.past - slice.first)) slices)
  where
    go : (b : Bool) → is_inside counts n slice ≡ b
        → (n + (slice.past - slice.first) ≤ 16777216 → first_outside counts (n + (slice.past - slice.first)) slices ≡ None → n + (slice.past - slice.first) + length (all_frames (spans_of slices)) ≤ 16777216)
        → n + length (all_frames (spans_of (slice ∷ slices))) ≤ 16777216
    go true e later =
        let rest = later (inside-few counts n slice e) (sym (first_outside-inside counts n slice slices e) ∙ none) in
        let one : length (frames_of (span_of slice)) ≡ slice.past - slice.first = told-all {A = Frame} (λ n. record { src = slice.src; n = n }) slice.first (slice.past - slice.first) in
        omega (arith, length-append (frames_of (span_of slice)) (all_frames (spans_of slices)), one, rest)
    go false e later = let some = sym (first_outside-outside counts n slice slices e) ∙ none in cc

-- a plan is made where no slice is out of range
plan-none : (counts : List ℕ) (marks : AllMarks) (slices : Slices) (runs : Runs) → plan_of counts marks slices ≡ Ok runs → first_outside counts 0 slices ≡ None
unfolding plan_of
plan-none counts marks slices runs plan = go (first_outside counts 0 slices) plan
  where
    go : (o : Option ℕ) → or_line o (all_runs marks (joined slices)) ≡ Ok runs → o ≡ None
    go (Some line) plan = cc
    go None plan = refl

pub plan-few : (marks : AllMarks) (slices : List SliceStruct) (runs : Runs) → plan_of (map (λ m. length m) marks) marks (slices_view slices) ≡ Ok runs
    → frames_copied runs + frames_coded runs ≤ 16777216
plan-few marks slices runs plan =
    let none = plan-none (map (λ m. length m) marks) marks (slices_view slices) runs plan in
    let few = slices-few (map (λ m. length m) marks) 0 (slices_view slices) (omega arith) none in
    let same = ap (λ ps. length ps) (plan-planned marks slices runs plan) ∙ spans-frames marks (joined (slices_view slices)) ∙ ap (λ fs. length fs) (joined-frames slices) in
    omega (arith, runs-frames runs, same, few)
