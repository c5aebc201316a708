use Rattle.std.proofs.Common.{◌≡◌, arith, sym, subst, length, get_or}
use Rattle.vid_plane.specs.Picture.{Picture}
use Rattle.vid_plane.specs.Paints.{Paints}
use Rattle.vid_plane.proofs.PlaneLemmas.{picture_is, two_is}
use Rattle.vid_plane.proofs.PaintLemmas.{Paints-two}
use Rattle.vid_plane.proofs.plane.Plane.put_two.Goals as goal

pub returns-clause-value : goal.returns-clause-value
returns-clause-value c = two_is _ _ _ _ c.args.self.now c.args.x c.args.y _ _ _ c.self.view_is c.self.invariant c.requires.columns c.requires.row c.place-at.ensures

pub returns-clause-paints : goal.returns-clause-paints
returns-clause-paints c =
    let two : length c.args.pair ≡ 2 = omega arith in
    subst (λ (q : Picture). Paints c.args.self.now q c.args.x c.args.y 2 1 (λ u _. get_or c.args.pair u 0)) (sym (returns-clause-value c))
    (Paints-two c.args.self.now c.args.x c.args.y c.args.pair two (picture_is _ _ _ _ c.args.self.now c.self.view_is c.self.invariant).whole c.requires.columns c.requires.row)
