-- (private) What the samples of eight lines are as lists, and how they change (own).
use Rattle.std.specs.Prelude.{ℕ, ◌≡◌, ◌<◌, length, slice_index}
use Rattle.vid_plane.specs.Picture.{Picture}
use Rattle.thr_loop.specs.EdgeRule.{Edge, line_of, sample_at, before_edge, behind_edge}
use Rattle.thr_loop.specs.declared.lines.Lines.{Lines}
use Rattle.thr_loop.specs.declared.lines.Sides.{Sides}

-- they are the samples of the lines of an edge
pub record AreLines (p : Picture) (edge : Edge) (lines : Lines) : Type 0 where
  pub first : (k : ℕ) → k < 8 → slice_index lines.p0 k ≡ sample_at p (line_of edge k).p0
  pub second : (k : ℕ) → k < 8 → slice_index lines.p1 k ≡ sample_at p (line_of edge k).p1
  pub third : (k : ℕ) → k < 8 → slice_index lines.p2 k ≡ sample_at p (line_of edge k).p2
  pub fourth : (k : ℕ) → k < 8 → slice_index lines.p3 k ≡ sample_at p (line_of edge k).p3

-- the samples before and behind the edge, filtered
pub record AreFiltered (l : ℕ) (lines : Lines) (sides : Sides) : Type 0 where
  pub whole : length sides.behind ≡ 8
  pub before : (k : ℕ) → k < 8 → slice_index sides.before k ≡ before_edge l (slice_index lines.p0 k) (slice_index lines.p1 k) (slice_index lines.p2 k) (slice_index lines.p3 k)
  pub behind : (k : ℕ) → k < 8 → slice_index sides.behind k ≡ behind_edge l (slice_index lines.p0 k) (slice_index lines.p1 k) (slice_index lines.p2 k) (slice_index lines.p3 k)
