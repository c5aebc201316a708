use Rattle.std.proofs.Common.{rules, arith, ◌<◌, ◌∙◌, sym}
use Rattle.std.proofs.lemmas.List.Elements.{All-push}
use Rattle.std.proofs.lemmas.List.Sums.{sum_by_push}
use Rattle.std.proofs.lemmas.Result.{err_from_is_err_and}
use Rattle.thr_quant.specs.declared.ranges.Range.{Range}
use Rattle.thr_quant.proofs.RangeLemmas.{ranges_step, ranges_fault, ranges_end}
use Rattle.thr_quant.proofs.ranges.read_list.Goals as goal

pub returns-in_err-range-clause-value : goal.returns-in_err-range-clause-value
returns-in_err-range-clause-value c =
    let p = err_from_is_err_and c.from_residual.result c.from_residual.ensures.1 in
    rw (p.1, p.2) (sym c.steps.invariant.read ∙ ranges_fault _ c.args.count c.steps.left c.steps.list.items _ c.steps.r.left (omega arith) c.steps-test.true c.in_err-range.ensures.value)

pub steps-preserved : goal.steps-preserved
steps-preserved c = record {
  sizes = rw c.push.ensures.items (All-push (λ (range : Range). 0 < range.size) _ _ c.steps.invariant.sizes c.in_ok-range.ensures.size.0);
  sum = rw (c.push.ensures.items) (omega (arith, sum_by_push (λ (range : Range). range.size) c.steps.list.items c.in_ok-range.range, c.in_ok-range.ensures.size.1));
  room = omega (arith, c.push.ensures.len, c.in_ok-range.ensures.size.0);
  named = rw c.push.ensures.items (All-push (λ (range : Range). range.next < c.args.count) _ _ c.steps.invariant.named c.in_ok-range.ensures.named);
  read = ranges_step c.args.count c.steps.left c.steps.list.items c.push.new.self.items c.in_ok-range.range c.steps.r.left c.read_range.new.r.left c.push.ensures.items c.steps-test.true c.steps.invariant.room c.in_ok-range.ensures.value ∙ c.steps.invariant.read;
  end = search rules;
}

pub returns-clause-value : goal.returns-clause-value
returns-clause-value c = sym c.steps.invariant.read ∙ ranges_end _ c.args.count c.steps.left c.steps.list.items c.steps.r.left (omega arith)
