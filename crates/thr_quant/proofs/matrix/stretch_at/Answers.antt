use Rattle.std.proofs.Common.{arith, sym, ◌∙◌, ap, refl}
use Rattle.std.proofs.lemmas.List.Sums.{sum_by_more}
use Rattle.thr_quant.specs.declared.ranges.Range.{Range}
use Rattle.thr_quant.specs.Ranges.{Ranges}
use Rattle.thr_quant.specs.Matrix.{stretches_of}
use Rattle.thr_quant.proofs.StretchLemmas.{stretch_found, stretch_passed, next_named}
use Rattle.thr_quant.proofs.matrix.stretch_at.Goals as goal

pub loop-range-init : goal.loop-range-init
unfolding stretches_of
loop-range-init c = record {
  same = c.deref-range-items.ensures.0 ∙ ap (λ (r : Ranges). r.list) c.ranges-2.view_is;
  first = refl;
  below = omega arith;
  passed = λ h. absurd (omega arith);
  found = rw (c.deref-range-items.ensures.0, ← c.ranges-2.view_is) refl;
  named = λ n named. let start = rw (← c.ranges-2.view_is) at named.start in start;
}

pub returns-then-qi-last-clause-value : goal.returns-then-qi-last-clause-value
returns-then-qi-last-clause-value c =
    sym c.loop-range.invariant.found
    ∙ stretch_found c.args.qi c.loop-range.first c.loop-range.from c.loop-range.range-index c.deref-range-items.result.now (record { size = 0; next = 0 }) c.loop-range-test.true c.loop-range.invariant.below c.if-qi-last.true

pub returns-then-qi-last-clause-named : goal.returns-then-qi-last-clause-named
returns-then-qi-last-clause-named c = λ n named. (
  c.loop-range.invariant.named n named,
  next_named n c.loop-range.range-index c.args.ranges.now c.deref-range-items.result.now (record { size = 0; next = 0 }) c.loop-range.invariant.same c.loop-range-test.true named,
)

pub loop-range-preserved : goal.loop-range-preserved
loop-range-preserved c = record {
  same = c.loop-range.invariant.same;
  first = omega (arith, c.loop-range.invariant.first, sum_by_more (λ (range : Range). range.size) c.deref-range-items.result.now c.loop-range.range-index (record { size = 0; next = 0 }) c.loop-range-test.true);
  below = omega arith;
  passed = λ _. omega arith;
  found =
      sym (stretch_passed c.args.qi c.loop-range.first c.loop-range.from c.loop-range.range-index c.deref-range-items.result.now (record { size = 0; next = 0 }) c.loop-range-test.true c.loop-range.invariant.below c.if-qi-last.false)
      ∙ c.loop-range.invariant.found;
  named = λ n named. next_named n c.loop-range.range-index c.args.ranges.now c.deref-range-items.result.now (record { size = 0; next = 0 }) c.loop-range.invariant.same c.loop-range-test.true named;
}
