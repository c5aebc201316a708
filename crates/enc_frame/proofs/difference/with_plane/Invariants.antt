use Rattle.std.proofs.Common.{◌≡◌, ℕ, ◌+◌, ◌*◌, ◌≤◌, List, drop, max}
use Rattle.enc_frame.specs.Difference.{differences, greatest, total}
use Rattle.enc_frame.specs.declared.difference.Diff.{Diff}
use Rattle.enc_frame.proofs.difference.with_plane.Given as goal

-- with what is left of the planes from that sample on
pub record Far (start : Diff) (a b : List ℕ) (at : ℕ) (now : Diff) : Type 0 where
  pub max_is : max now.max (greatest (differences (drop at a) (drop at b))) ≡ max start.max (greatest (differences a b))
  pub sum_is : now.sum + total (differences (drop at a) (drop at b)) ≡ start.sum + total (differences a b)
  pub few : now.sum ≤ start.sum + 255 * at

abbrev pub invariant-rows : goal.invariant-rows
invariant-rows l = Far l.fn.diff l.a.samples l.b.samples (l.y * l.a.width) l.far
