use Rattle.std.proofs.Common.{refl, ◌∙◌}
use Rattle.std.proofs.lemmas.Int.{to_z-of_z}
use Rattle.std.specs.Int.{w32}
use Rattle.vid_plane.specs.Seen.{picture_of, left_of, lower_of}
use Rattle.vid_plane.proofs.plane.Plane.window.Goals as goal

pub returns-clause-plane : goal.returns-clause-plane
unfolding picture_of
returns-clause-plane c = refl

pub returns-clause-left : goal.returns-clause-left
unfolding left_of
returns-clause-left c = c.from_border.ensures.value ∙ to_z-of_z w32 c.args.x c.ranges.x

pub returns-clause-lower : goal.returns-clause-lower
unfolding lower_of
returns-clause-lower c = c.from_border-2.ensures.value ∙ to_z-of_z w32 c.args.y c.ranges.y
