use Rattle.std.proofs.Common.{arith}
use Rattle.vid_plane.specs.Border.{IsWidened}
use Rattle.vid_plane.proofs.border.widen_rows.Goals as goal

pub returns : goal.returns
unfolding IsWidened
returns c = λ X Y hX hY. c.loop-y.invariant.done X Y hX (omega arith)
