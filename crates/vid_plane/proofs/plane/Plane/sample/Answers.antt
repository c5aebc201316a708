use Rattle.std.proofs.Common.{◌∙◌}
use Rattle.std.proofs.lemmas.List.{get_or_read}
use Rattle.vid_plane.proofs.PlaneLemmas.{sample_is, place_within}
use Rattle.vid_plane.proofs.plane.Plane.sample.Goals as goal

pub returns : goal.returns
returns c =
    get_or_read c.self.inside.buffer.items _ _ (place_within _ _ _ _ c.args.self.now c.args.x c.args.y _ c.self.view_is c.self.invariant c.requires.column c.requires.row c.place.ensures) c.index.ensures 0
    ∙ sample_is _ _ _ _ c.args.self.now c.args.x c.args.y _ c.self.view_is c.requires.column c.requires.row c.place.ensures
