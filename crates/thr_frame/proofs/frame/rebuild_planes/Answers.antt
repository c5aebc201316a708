use Rattle.std.proofs.Common.{refl}
use Rattle.thr_frame.specs.Rebuilt.{unfiltered}
use Rattle.thr_frame.proofs.frame.rebuild_planes.Goals as goal

pub returns-clause-value : goal.returns-clause-value
unfolding unfiltered
returns-clause-value c = rw (c.rebuild_plane.ensures.value, c.rebuild_plane-2.ensures.value, c.rebuild_plane-3.ensures.value) refl
