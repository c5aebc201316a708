use Rattle.std.proofs.Common.{◌≡◌, length, map, take, drop}
use Rattle.vid_base.specs.Reading.{SameEnd}
use Rattle.vid_base.specs.Items.{with_front}
use Rattle.thr_modes.specs.InOrder.{each}
use Rattle.thr_modes.specs.Vectors.{offset_of}
use Rattle.thr_modes.specs.Motion.{own_vector}
use Rattle.thr_modes.specs.Views.{vector_form}
use Rattle.thr_modes.proofs.motion.read_own_vectors.Given as goal

abbrev pub invariant-luma : goal.invariant-luma
invariant-luma l = record {
  read : with_front (take l.b (map offset_of l.vectors)) (each (own_vector (vector_form l.coding)) (drop l.b l.luma) l.r.left) ≡ each (own_vector (vector_form l.coding)) l.luma l.fn.r.left;
  long : length l.vectors ≡ 4;
  end : SameEnd l.fn.r l.r;
}
