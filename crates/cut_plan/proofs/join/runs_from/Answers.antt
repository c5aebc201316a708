use Rattle.std.proofs.Common.{◌+◌, ◌++◌, drop, sym, ap, ◌∙◌, refl, arith}
use Rattle.std.proofs.lemmas.List.{append-nil}
use Rattle.cut_list.specs.Slices.{slices_view}
use Rattle.cut_plan.specs.Spans.{joined}
use Rattle.cut_plan.proofs.RangeLemmas.{view-item, view-none}
use Rattle.cut_plan.proofs.join.runs_from.Goals as goal

pub loop-slice-init : goal.loop-slice-init
unfolding joined
loop-slice-init c = rw (c.of-span.ensures.value, c.new-runs.ensures.items) (record { inside = c.requires.0; left = c.requires.1; runs = refl })

pub loop-slice-preserved : goal.loop-slice-preserved
unfolding joined
loop-slice-preserved c =
    let left = view-item c.args.rest.now c.loop-slice.slice-index c.slice-item.result c.loop-slice-test.true c.slice-item.is in
    let inside = rw left at c.loop-slice.invariant.left in
    record {
      inside = c.in_ok-span.ensures.inside;
      left = inside.1;
      runs = c.in_ok-span.ensures.joined (joined (slices_view (drop (c.loop-slice.slice-index + 1) c.args.rest.now))) ∙ (rw left at c.loop-slice.invariant.runs);
    }

pub returns-clause-value : goal.returns-clause-value
unfolding joined
returns-clause-value c =
    let none = view-none c.args.rest.now c.loop-slice.slice-index (omega arith) in
    let all = rw none at c.loop-slice.invariant.runs in
    c.in_ok-add_runs.ensures.added ∙ sym (ap (λ runs. c.loop-slice.runs.items ++ runs) (append-nil _)) ∙ all
