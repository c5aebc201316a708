use Rattle.std.proofs.Common.{◌≡◌, ◌-◌, vec_len}
use Rattle.vid_base.specs.Reading.{SameEnd}
use Rattle.vid_base.specs.Items.{items, with_front}
use Rattle.thr_quant.specs.Ramps.{base_matrix_of}
use Rattle.thr_quant.proofs.ramps.read_list.Given as goal

-- the matrices so far, and then those that are still read, are all matrices
abbrev pub invariant-loop : goal.invariant-loop
invariant-loop l = record {
  count : vec_len l.list ≡ l.counter;
  read : with_front l.list.items (items base_matrix_of (l.count - l.counter) l.r.left) ≡ items base_matrix_of l.count l.fn.r.left;
  end : SameEnd l.fn.r l.r;
}
