use Rattle.std.proofs.Common.{◌≡◌, ℕ, ◌<◌, ◌≤◌, find, take, drop, sum_by}
use Rattle.thr_quant.specs.Ranges.{NameMatrices}
use Rattle.thr_quant.specs.Matrix.{holds, stretches, stretches_of}
use Rattle.thr_quant.proofs.matrix.stretch_at.Given as goal

-- the ranges so far end before the index, so it is found among the others
abbrev pub invariant-loop-range : goal.invariant-loop-range
invariant-loop-range l = record {
  same : l.range-items ≡ l.ranges.list;
  first : l.first ≡ sum_by (λ range. range.size) (take l.range-index l.range-items);
  below : l.first ≤ l.qi;
  passed : 0 < l.range-index → l.first < l.qi;
  found : find (holds l.qi) (stretches l.first l.from (drop l.range-index l.range-items)) ≡ find (holds l.qi) (stretches_of l.ranges);
  named : (n : ℕ) → NameMatrices n l.ranges → l.from < n;
}
