use Rattle.std.proofs.Common.{refl}
use Rattle.vid_plane.specs.Picture.{sealed_picture, blank}
use Rattle.vid_plane.specs.Frames.{blank_plane}
use Rattle.cut_plan.proofs.tests.a_still_picture_is_a_target.Goals as goal

pub invariant_of-still : goal.invariant_of-still
unfolding sealed_picture blank blank_plane
invariant_of-still g c = record { sized = c.in_ok-new.ensures.sized; sealed = rw c.in_ok-new.ensures.value refl }
