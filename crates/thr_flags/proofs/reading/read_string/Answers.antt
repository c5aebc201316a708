use Rattle.std.proofs.Common.{arith, ◌<◌, length}
use Rattle.std.proofs.lemmas.Result.{err_from_is_err_and}
use Rattle.thr_flags.proofs.RunLemmas.{string_none, string_first, string_value_fault, string_run_fault}
use Rattle.thr_flags.specs.Views.{run_form}
use Rattle.thr_flags.proofs.reading.read_string.Goals as goal

pub returns-then-is_empty-clause-value : goal.returns-then-is_empty-clause-value
returns-then-is_empty-clause-value c = string_none (run_form c.args.code) c.args.into.now c.args.r.now.left (grind arith)

pub returns-in_err-value-clause-value : goal.returns-in_err-value-clause-value
returns-in_err-value-clause-value c = let p = err_from_is_err_and c.from_residual.result c.from_residual.ensures.1 in
    rw (p.1, p.2) (string_value_fault (run_form c.args.code) (length c.args.into.now) c.args.r.now.left _ (grind arith) c.in_err-value.ensures.value)

pub returns-in_err-run-clause-value : goal.returns-in_err-run-clause-value
returns-in_err-run-clause-value c = let p = err_from_is_err_and c.from_residual-in_err-run.result c.from_residual-in_err-run.ensures.1 in
    rw (p.1, p.2) (string_run_fault (run_form c.args.code) (length c.args.into.now) _ c.args.r.now.left _ _ (grind arith) c.in_ok-value.ensures.value c.in_err-run.ensures.value)

pub returns-clause-value : goal.returns-clause-value
returns-clause-value c =
    let some : 0 < length c.args.into.now = grind arith in
    rw (string_first (run_form c.args.code) (length c.args.into.now) _ _ c.args.r.now.left _ _ some c.in_ok-run.ensures.some c.in_ok-value.ensures.value c.in_ok-run.ensures.value) c.read_runs.ensures.value
