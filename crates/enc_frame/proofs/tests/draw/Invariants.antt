use Rattle.vid_plane.specs.Picture.{IsLike}
use Rattle.enc_frame.proofs.tests.draw.Given as goal

-- only samples change
abbrev pub invariant-loop-y : goal.invariant-loop-y
invariant-loop-y l = IsLike l.fn.plane l.plane

abbrev pub invariant-loop-x : goal.invariant-loop-x
invariant-loop-x l = IsLike l.fn.plane l.plane
