use Rattle.std.proofs.Common.{◌≡◌, [], ◌∙◌, ap, sym, arith}
use Rattle.cut_plan.proofs.RangeLemmas.{view-first, no_slice}
use Rattle.cut_list.specs.Slices.{slices_view}
use Rattle.cut_plan.specs.Runs.{all_runs}
use Rattle.cut_plan.specs.Views.{marks_view}
use Rattle.cut_plan.specs.Spans.{joined}
use Rattle.cut_plan.proofs.join.runs_of.Goals as goal

pub runs_from-requires : goal.runs_from-requires
runs_from-requires c =
    let slices = view-first c.args.slices.now c.first-item.result (omega arith) c.first-item.is in
    rw slices at c.requires

pub returns-in-len1-up-clause-value : goal.returns-in-len1-up-clause-value
returns-in-len1-up-clause-value c =
    let slices = view-first c.args.slices.now c.first-item.result (omega arith) c.first-item.is in
    rw slices c.runs_from.ensures.value

pub returns-in-empty-clause-value : goal.returns-in-empty-clause-value
unfolding joined
returns-in-empty-clause-value c =
    let none : c.args.slices.now ≡ [] = no_slice c.args.slices.now (omega arith) in
    c.new.ensures.items ∙ sym (ap (λ slices. all_runs (marks_view c.args.keys.now) (joined (slices_view slices))) none)
