use Rattle.std.proofs.Common.{◌≡◌, ◌≤◌, drop}
use Rattle.cut_list.specs.Slices.{slices_view}
use Rattle.cut_plan.specs.Range.{first_outside}
use Rattle.cut_plan.proofs.range.first_outside.Given as goal

-- what is said of the slices that are left is said of all
abbrev pub invariant-loop-slice : goal.invariant-loop-slice
invariant-loop-slice l = record {
  few : l.listed ≤ 16777216;
  same : first_outside l.counts l.listed (slices_view (drop l.slice-index l.slices)) ≡ first_outside l.counts 0 (slices_view l.slices);
}
