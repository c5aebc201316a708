use Rattle.std.proofs.Common.{◌≡◌, ◌+◌, ◌++◌, List, Bool, take, drop, sum_by}
use Rattle.thr_quant.specs.Ranges.{list_bits}
use Rattle.thr_quant.proofs.write.write_list.Given as goal

-- what is there, and then the ranges that are left, are what was there and all ranges
abbrev pub invariant-loop-range : goal.invariant-loop-range
invariant-loop-range l = record {
  left : l.left + sum_by (λ range. range.size) (take l.range-index l.list) ≡ 63;
  all : l.w ++ list_bits l.count l.left (drop l.range-index l.list) ≡ l.fn.w ++ list_bits l.count 63 l.list;
  front : (more : List Bool) × (l.w ≡ l.fn.w ++ more);
}
