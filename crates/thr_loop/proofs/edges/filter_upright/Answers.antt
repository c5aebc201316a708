use Rattle.std.proofs.Common.{◌≡◌, ◌∙◌, ◌+◌, ◌-◌, ℕ, [], ◌∷◌, get_or, subst, ap, arith}
use Rattle.vid_plane.specs.Picture.{with_pixel}
use Rattle.vid_plane.specs.Paints.{Paints}
use Rattle.vid_plane.proofs.PaintLemmas.{Paints-on}
use Rattle.vid_plane.proofs.PictureLemmas.{sealed-with_pixel}
use Rattle.thr_loop.proofs.EdgeLemmas.{upright_is}
use Rattle.thr_loop.proofs.edges.filter_upright.Goals as goal

pub loop-k-preserved : goal.loop-k-preserved
loop-k-preserved c =
    let sides = c.filtered-sides.result in
    let k : ℕ = c.loop-k.k in record {
      painted = Paints-on c.args.plane.now c.loop-k.plane c.put_two.new.self (c.args.x - 1) c.args.y 2 k 1
          (λ u v. get_or (get_or sides.before v 0 ∷ get_or sides.behind v 0 ∷ []) u 0) (λ u _. get_or (get_or sides.before k 0 ∷ get_or sides.behind k 0 ∷ []) u 0)
          c.loop-k.invariant.painted c.put_two.ensures.paints
          (λ u v hu hv. let e : k ≡ k + v = omega arith in ap (λ z. get_or (get_or sides.before z 0 ∷ get_or sides.behind z 0 ∷ []) u 0) e)
          (omega arith) (omega arith);
      unsealed = λ _. ap (λ p. p.sealed) c.put_two.ensures.value
          ∙ sealed-with_pixel (with_pixel c.loop-k.plane (c.args.x - 1) (c.args.y + k) (get_or sides.before k 0)) (c.args.x - 1 + 1) (c.args.y + k) (get_or sides.behind k 0);
    }

pub returns-clause-value : goal.returns-clause-value
returns-clause-value c =
    let sides = c.filtered-sides.result in
    let e : c.loop-k.k ≡ 8 = omega arith in
    upright_is c.args.limit c.args.plane.now c.loop-k.plane c.args.x c.args.y c.upright_lines.result sides
    c.requires.sized c.requires.rows c.requires.left c.requires.right c.upright_lines.ensures c.filtered-sides.ensures
    (subst (λ n. Paints c.args.plane.now c.loop-k.plane (c.args.x - 1) c.args.y 2 n (λ u v. get_or (get_or sides.before v 0 ∷ get_or sides.behind v 0 ∷ []) u 0)) e c.loop-k.invariant.painted)
    (c.loop-k.invariant.unsealed (omega arith))
