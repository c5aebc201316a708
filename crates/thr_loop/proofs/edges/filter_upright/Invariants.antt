use Rattle.std.proofs.Common.{◌≡◌, ◌-◌, ◌<◌, false, [], ◌∷◌, get_or}
use Rattle.vid_plane.specs.Paints.{Paints}
use Rattle.thr_loop.proofs.edges.filter_upright.Given as goal

abbrev pub invariant-loop-k : goal.invariant-loop-k
invariant-loop-k l = record {
  painted : Paints l.fn.plane l.plane (l.x - 1) l.y 2 l.k (λ u v. get_or (get_or l.sides.before v 0 ∷ get_or l.sides.behind v 0 ∷ []) u 0);
  unsealed : 0 < l.k → l.plane.sealed ≡ false;
}
