use Rattle.std.proofs.Common.{◌≡◌, ℕ, ◌<◌, length, get_or}
use Rattle.thr_loop.specs.EdgeRule.{before_edge, behind_edge}
use Rattle.thr_loop.proofs.lines.filtered.Given as goal

abbrev pub invariant-loop-k : goal.invariant-loop-k
invariant-loop-k l = record {
  whole_before : length l.sides.before ≡ 8;
  whole_behind : length l.sides.behind ≡ 8;
  before : (k : ℕ) → k < l.k → get_or l.sides.before k 0 ≡ before_edge l.limit (get_or l.p0 k 0) (get_or l.p1 k 0) (get_or l.p2 k 0) (get_or l.p3 k 0);
  behind : (k : ℕ) → k < l.k → get_or l.sides.behind k 0 ≡ behind_edge l.limit (get_or l.p0 k 0) (get_or l.p1 k 0) (get_or l.p2 k 0) (get_or l.p3 k 0);
}
