use Rattle.std.proofs.Common.{◌≡◌, ◌+◌, ◌-◌, ◌<◌, ◌≤◌, length, All, sum_by}
use Rattle.vid_base.specs.Reading.{SameEnd}
use Rattle.vid_base.specs.Items.{with_front}
use Rattle.thr_quant.specs.Ranges.{list_of}
use Rattle.thr_quant.proofs.ranges.read_list.Given as goal

-- the ranges so far, and then those that are still read, are all ranges
abbrev pub invariant-steps : goal.invariant-steps
invariant-steps l = record {
  sizes : All (λ range. 0 < range.size) l.list.items;
  sum : sum_by (λ range. range.size) l.list.items + l.left ≡ 63;
  room : length l.list.items + l.left ≤ 63;
  named : All (λ range. range.next < l.count) l.list.items;
  read : with_front l.list.items (list_of (63 - length l.list.items) l.count l.left l.r.left) ≡ list_of 63 l.count 63 l.fn.r.left;
  end : SameEnd l.fn.r l.r;
}

abbrev pub decreases-steps : goal.decreases-steps
decreases-steps l = l.left
