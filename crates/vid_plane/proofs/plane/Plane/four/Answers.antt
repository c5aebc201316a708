use Rattle.std.proofs.Common.{◌∙◌, ap, map, get_or, ℕ, List, ◌+◌}
use Rattle.std.specs.List.{range_with_len}
use Rattle.vid_plane.proofs.PlaneLemmas.{run_is}
use Rattle.vid_plane.proofs.plane.Plane.four.Goals as goal

pub returns : goal.returns
returns c = record {
  value = c.four.ensures ∙ ap (λ (l : List ℕ). map (λ k. get_or l (c.place.result + k) 0) (range_with_len 0 4)) c.as_slice.ensures.value
      ∙ run_is _ _ c.self.inside.buffer.items _ c.args.self.now c.args.x c.args.y 4 c.place.result c.self.view_is c.requires.columns c.requires.row c.place.ensures;
}
