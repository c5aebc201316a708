use Rattle.std.proofs.Common.{◌∙◌, ap, rules}
use Rattle.vid_plane.specs.Border.{inner}
use Rattle.vid_plane.proofs.BorderLemmas.{whole_again}
use Rattle.vid_plane.proofs.PlaneLemmas.{seal_is}
use Rattle.vid_plane.proofs.plane.Plane.seal.Goals as goal

pub returns : goal.returns
returns c = seal_is _ _ _ _ _ c.args.self.now c.self.view_is (ap (inner c.self.inside.width c.self.inside.height) (whole_again c.fill.new.buffer c.self.inside.buffer.items c.self.inside.buffer.len (search rules))
    ∙ c.fill.ensures.same ∙ ap (inner c.self.inside.width c.self.inside.height) c.as_mut_slice.ensures.value)
