use Rattle.std.proofs.Common.{◌≡◌, take, drop}
use Rattle.vid_base.specs.Reading.{SameEnd}
use Rattle.vid_base.specs.Items.{with_front}
use Rattle.thr_modes.specs.InOrder.{each}
use Rattle.thr_modes.specs.LumaFlags.{macro_flags}
use Rattle.thr_modes.specs.Modes.{macro_mode}
use Rattle.thr_modes.specs.Views.{mode_form}
use Rattle.thr_modes.proofs.modes.read_macro_modes.Given as goal

abbrev pub invariant-macro_blocks : goal.invariant-macro_blocks
invariant-macro_blocks l = record {
  read : with_front (take l.m l.modes) (each (macro_mode (mode_form l.coding)) (drop l.m (macro_flags l.geom l.flags)) l.r.left) ≡ each (macro_mode (mode_form l.coding)) (macro_flags l.geom l.flags) l.fn.r.left;
  end : SameEnd l.fn.r l.r;
}
