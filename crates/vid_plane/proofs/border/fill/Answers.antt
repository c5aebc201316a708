use Rattle.vid_plane.proofs.BorderLemmas.{framed_after, same_after}
use Rattle.vid_plane.proofs.border.fill.Goals as goal

pub returns-clause-framed : goal.returns-clause-framed
returns-clause-framed c = framed_after _ _ _ _ _ c.requires.wide c.requires.high c.widen_rows.ensures c.stretch.ensures

pub returns-clause-same : goal.returns-clause-same
returns-clause-same c = same_after _ _ _ _ _ c.widen_rows.ensures c.stretch.ensures
