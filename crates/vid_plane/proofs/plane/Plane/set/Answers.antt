use Rattle.std.proofs.Common.{sym, subst}
use Rattle.vid_plane.specs.Picture.{Picture}
use Rattle.vid_plane.specs.Paints.{Paints}
use Rattle.vid_plane.proofs.PlaneLemmas.{picture_is, set_is}
use Rattle.vid_plane.proofs.PaintLemmas.{Paints-with_pixel}
use Rattle.vid_plane.proofs.plane.Plane.set.Goals as goal

pub returns-clause-value : goal.returns-clause-value
returns-clause-value c = set_is _ _ _ _ c.args.self.now c.args.x c.args.y c.args.v _ c.self.view_is c.self.invariant c.requires.column c.requires.row c.place-at.ensures

pub returns-clause-paints : goal.returns-clause-paints
returns-clause-paints c =
    subst (λ (q : Picture). Paints c.args.self.now q c.args.x c.args.y 1 1 (λ _ _. c.args.v)) (sym (returns-clause-value c))
    (Paints-with_pixel c.args.self.now c.args.x c.args.y c.args.v (picture_is _ _ _ _ c.args.self.now c.self.view_is c.self.invariant).whole c.requires.column c.requires.row)
