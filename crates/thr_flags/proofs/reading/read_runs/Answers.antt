use Rattle.std.proofs.Common.{rules, arith, ◌≡◌, ◌∙◌, ◌+◌, ◌-◌, ap, sym, length, take}
use Rattle.std.proofs.Math.Seq.{take-length}
use Rattle.std.proofs.lemmas.Result.{err_from_is_err_and}
use Rattle.thr_flags.proofs.RunLemmas.{step_next, step_last, step_long, step_value_fault, step_run_fault}
use Rattle.thr_flags.specs.Views.{run_form}
use Rattle.thr_flags.proofs.reading.read_runs.Goals as goal

pub returns-then-at-into-clause-value : goal.returns-then-at-into-clause-value
returns-then-at-into-clause-value c =
    let whole : length c.fill_run.new.into ≡ c.runs.at + c.runs.run = omega arith in
    step_last (run_form c.args.code) (length c.runs.into - c.runs.at) c.runs.run c.runs.value (take c.runs.at c.runs.into) _ c.runs.r.left c.runs.invariant.same (omega arith)
    (sym (take-length _) ∙ ap (λ n. take n c.fill_run.new.into) whole ∙ c.fill_run.ensures.front)

pub returns-in_err-value-clause-value : goal.returns-in_err-value-clause-value
returns-in_err-value-clause-value c = let p = err_from_is_err_and c.from_residual.result c.from_residual.ensures.1 in
    rw (p.1, p.2) (step_value_fault (run_form c.args.code) (length c.runs.into - c.runs.at) (length c.runs.into - (c.runs.at + c.runs.run)) c.runs.run c.runs.value (take c.runs.at c.runs.into) c.runs.r.left _ c.runs.invariant.same (omega arith) (omega arith) c.in_err-value.ensures.value)

pub returns-in_err-run-clause-value : goal.returns-in_err-run-clause-value
returns-in_err-run-clause-value c = let p = err_from_is_err_and c.from_residual-in_err-run.result c.from_residual-in_err-run.ensures.1 in
    rw (p.1, p.2) (step_run_fault (run_form c.args.code) (length c.runs.into - c.runs.at) (length c.runs.into - (c.runs.at + c.runs.run)) c.runs.run c.runs.value _ (take c.runs.at c.runs.into) c.runs.r.left _ _ c.runs.invariant.same (omega arith) (omega arith) c.in_ok-value.ensures.value c.in_err-run.ensures.value)

pub runs-preserved : goal.runs-preserved
runs-preserved c = record {
  same = step_next (run_form c.args.code) (length c.runs.into - c.runs.at) _ c.runs.run _ c.runs.value _ (take c.runs.at c.runs.into) _ c.runs.r.left _ _ c.runs.invariant.same (omega arith) (omega arith) c.in_ok-run.ensures.some c.fill_run.ensures.front c.in_ok-value.ensures.value c.in_ok-run.ensures.value;
  same_len = c.fill_run.ensures.len ∙ c.runs.invariant.same_len;
  within = omega arith;
  small = c.in_ok-run.ensures.small;
  some = c.in_ok-run.ensures.some;
  end = search rules;
}

pub returns-clause-value : goal.returns-clause-value
returns-clause-value c = step_long (run_form c.args.code) (length c.runs.into - c.runs.at) c.runs.run c.runs.value (take c.runs.at c.runs.into) c.runs.r.left c.runs.invariant.same (omega arith)
