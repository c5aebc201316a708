use Rattle.std.proofs.Common.{subst}
use Rattle.vid_plane.specs.Picture.{IsPicture}
use Rattle.vid_plane.proofs.BorderLemmas.{IsPicture-shown}
use Rattle.vid_plane.proofs.plane.Plane.height.Goals as goal

pub returns-clause-sized : goal.returns-clause-sized
returns-clause-sized c = subst IsPicture c.self.view_is (IsPicture-shown _ _ _ _ c.self.invariant)
