use Rattle.std.proofs.Common.{◌≡◌, ℕ, ◌+◌, ◌*◌, ◌≤◌, List, drop, max}
use Rattle.enc_frame.specs.Difference.{differences, greatest, total}
use Rattle.enc_frame.proofs.difference.with_row.Given as goal

-- with what is left of the rows
pub record Far (diff_max diff_sum : ℕ) (a b : List ℕ) (k top far : ℕ) : Type 0 where
  pub max_is : max top (greatest (differences (drop k a) (drop k b))) ≡ max diff_max (greatest (differences a b))
  pub sum_is : far + total (differences (drop k a) (drop k b)) ≡ diff_sum + total (differences a b)
  pub few : far ≤ diff_sum + 255 * k

abbrev pub invariant-samples : goal.invariant-samples
invariant-samples l = Far l.fn.diff.max l.fn.diff.sum l.a l.b l.k l.max l.sum
