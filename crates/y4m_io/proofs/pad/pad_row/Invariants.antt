use Rattle.std.proofs.Common.{◌-◌, ◌*◌, length, get_or}
use Rattle.std.specs.Prelude.{min}
use Rattle.vid_plane.specs.Paints.{Paints}
use Rattle.y4m_io.proofs.pad.pad_row.Given as goal

-- the blocks so far
abbrev pub invariant-loop-block : goal.invariant-loop-block
invariant-loop-block l = Paints l.fn.into l.into 0 l.y (8 * l.block) 1 (λ u _. get_or l.row (min u (length l.row - 1)) 0)
