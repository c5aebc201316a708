use Rattle.std.proofs.Common.{◌≡◌, List, IfOk, Result, Ok, Err, sym, ap, None, refl}
use Rattle.std.specs.Global.{Vec}
use Rattle.cut_list.specs.Slices.{slices_view}
use Rattle.cut_plan.specs.Range.{first_outside}
use Rattle.cut_plan.specs.Runs.{or_line, plan_of}
use Rattle.cut_plan.specs.Views.{marks_view}
use Rattle.cut_plan.proofs.RangeLemmas.{all_inside}
use Rattle.cut_plan.specs.declared.fault.PlanFault.{PlanFault}
use Rattle.cut_plan.specs.declared.run.Run.{Run}
use Rattle.cut_plan.proofs.planning.plan.Goals as goal

-- where the runs are all runs, they are what is planned
planned : (result : Result (Vec Run) PlanFault) (all : List Run) → IfOk result (λ runs. runs.items ≡ all) → IfOk result (λ runs. or_line None all ≡ Ok runs.items)
planned (Ok runs) all h = ap (λ r. Ok r) (sym h)
planned (Err fault) all h = tt

pub returns-in-Some-clause-range : goal.returns-in-Some-clause-range
unfolding plan_of
returns-in-Some-clause-range c = rw (← c.deref.ensures.value, ← c.in-Some.ensures) refl

pub runs_of-requires : goal.runs_of-requires
runs_of-requires c =
    let same : c.deref-in-None.result.now ≡ c.deref.result.now = cc in
    let none : first_outside c.args.counts.now 0 (slices_view c.deref.result.now) ≡ None = sym c.in-None.ensures in
    rw same (all_inside (marks_view c.args.keys.now) 0 c.deref.result.now (rw c.requires.sized none))

pub returns-in-None-clause-value : goal.returns-in-None-clause-value
unfolding plan_of
returns-in-None-clause-value c =
    let same : c.deref-in-None.result.now ≡ c.args.list.now.slices.items = c.deref-in-None.ensures.value in
    let none : first_outside c.args.counts.now 0 (slices_view c.args.list.now.slices.items) ≡ None = (rw c.deref.ensures.value at (sym c.in-None.ensures)) in
    rw none (planned c.runs_of.result _ (rw same at c.runs_of.ensures.value))
