use Rattle.vid_plane.specs.Paints.{Paints}
use Rattle.y4m_io.specs.Pad.{nearest_sample}
use Rattle.y4m_io.proofs.pad.pad_plane.Given as goal

-- the rows so far
abbrev pub invariant-loop-y : goal.invariant-loop-y
invariant-loop-y l = Paints l.fn.into l.into 0 0 l.fn.into.width l.y (nearest_sample l.columns l.rows l.samples)
