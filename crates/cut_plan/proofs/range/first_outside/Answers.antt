use Rattle.std.proofs.Common.{◌≡◌, true, false, sym, ◌∙◌, arith}
use Rattle.cut_list.specs.Slices.{slice_view}
use Rattle.cut_plan.specs.Range.{is_inside}
use Rattle.cut_plan.proofs.RangeLemmas.{first_outside-inside, first_outside-none, first_outside-outside, inside-few, view-item, view-none}
use Rattle.cut_plan.proofs.range.first_outside.Goals as goal

pub returns-then-not-is_inside : goal.returns-then-not-is_inside
returns-then-not-is_inside c =
    let left = view-item c.args.slices.now c.loop-slice.slice-index c.slice-item.result c.loop-slice-test.true c.slice-item.is in
    let outside : is_inside c.args.counts.now c.loop-slice.listed (slice_view c.slice-item.result) ≡ false = grind arith in
    sym (first_outside-outside _ _ _ _ outside) ∙ (rw left at c.loop-slice.invariant.same)

pub loop-slice-preserved : goal.loop-slice-preserved
loop-slice-preserved c =
    let left = view-item c.args.slices.now c.loop-slice.slice-index c.slice-item.result c.loop-slice-test.true c.slice-item.is in
    let inside : is_inside c.args.counts.now c.loop-slice.listed (slice_view c.slice-item.result) ≡ true = grind arith in
    record {
      few = inside-few _ _ (slice_view c.slice-item.result) inside;
      same = sym (first_outside-inside _ _ _ _ inside) ∙ (rw left at c.loop-slice.invariant.same);
    }

pub returns : goal.returns
returns c =
    let none = view-none c.args.slices.now c.loop-slice.slice-index (omega arith) in
    sym (first_outside-none _ _) ∙ (rw none at c.loop-slice.invariant.same)
