use Rattle.std.proofs.Common.{◌≡◌, ◌∷◌, ◌++◌, drop}
use Rattle.cut_list.specs.Slices.{slice_view, slices_view}
use Rattle.cut_plan.specs.Runs.{all_runs}
use Rattle.cut_plan.specs.Spans.{join, joined}
use Rattle.cut_plan.specs.Views.{AreInside, IsSpan, marks_view, span_view}
use Rattle.cut_plan.proofs.join.runs_from.Given as goal

-- the runs so far, and those of the span and the slices that are left, are all
abbrev pub invariant-loop-slice : goal.invariant-loop-slice
invariant-loop-slice l = record {
  inside : IsSpan (marks_view l.keys) (span_view l.span);
  left : AreInside (marks_view l.keys) (slices_view (drop l.slice-index l.rest));
  runs : l.runs.items ++ all_runs (marks_view l.keys) (join (span_view l.span) (joined (slices_view (drop l.slice-index l.rest))))
      ≡ all_runs (marks_view l.keys) (joined (slice_view l.first ∷ slices_view l.rest));
}
