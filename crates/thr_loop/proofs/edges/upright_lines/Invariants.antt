use Rattle.std.proofs.Common.{◌≡◌, ℕ, ◌+◌, ◌-◌, ◌<◌, length, get_or}
use Rattle.vid_plane.specs.Picture.{pixel}
use Rattle.thr_loop.proofs.edges.upright_lines.Given as goal

abbrev pub invariant-loop-k : goal.invariant-loop-k
invariant-loop-k l = record {
  whole0 : length l.lines.p0 ≡ 8;
  whole1 : length l.lines.p1 ≡ 8;
  whole2 : length l.lines.p2 ≡ 8;
  whole3 : length l.lines.p3 ≡ 8;
  first : (k : ℕ) → k < l.k → get_or l.lines.p0 k 0 ≡ pixel l.plane (l.x - 2) (l.y + k);
  second : (k : ℕ) → k < l.k → get_or l.lines.p1 k 0 ≡ pixel l.plane (l.x - 1) (l.y + k);
  third : (k : ℕ) → k < l.k → get_or l.lines.p2 k 0 ≡ pixel l.plane l.x (l.y + k);
  fourth : (k : ℕ) → k < l.k → get_or l.lines.p3 k 0 ≡ pixel l.plane (l.x + 1) (l.y + k);
}
