use Rattle.std.proofs.Common.{arith, ◌≡◌, ◌∙◌, ◌-◌, ◌+◌, ap, drop, take}
use Rattle.vid_plane.specs.Picture.{Picture}
use Rattle.vid_plane.proofs.PlaneLemmas.{row_is}
use Rattle.vid_plane.proofs.plane.Plane.row.Goals as goal

pub returns-clause-value : goal.returns-clause-value
returns-clause-value c =
    let n : c.place-at.result + c.self.inside.width - c.place-at.result ≡ c.args.self.now.width = omega (arith, ap (λ (p : Picture). p.width) c.self.view_is) in
    ap (λ l. take (c.place-at.result + c.self.inside.width - c.place-at.result) (drop c.place-at.result l)) c.deref.ensures.value
    ∙ row_is _ _ _ _ c.args.self.now c.args.y _ c.place-at.result c.self.view_is c.self.invariant n c.requires c.place-at.ensures
