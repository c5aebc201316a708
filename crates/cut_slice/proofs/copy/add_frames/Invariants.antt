use Rattle.std.proofs.Common.{◌≡◌, ◌≤◌, ◌+◌, ◌++◌, List, ℕ, map, drop}
use Rattle.ogg_page.specs.Written.{written_pages}
use Rattle.cut_slice.specs.Copy.{frame_pages}
use Rattle.cut_desk.specs.Making.{Adds}
use Rattle.cut_slice.specs.Plain.{stream_of}
use Rattle.cut_slice.specs.Sources.{packets_view}
use Rattle.cut_slice.proofs.copy.add_frames.Given as goal

-- the pages so far came to the output, and with those of the frames that are left they are all
abbrev pub invariant-loop-f : goal.invariant-loop-f
invariant-loop-f g l = record {
  key : l.key ≤ l.f;
  came : List ℕ;
  adds : Adds (g.D.Desk.sees l.fn.desk) (g.D.Desk.sees l.desk) l.id came;
  all : came ++ written_pages (frame_pages (stream_of (packets_view l.source)) (2 + l.f) l.f l.key (map (λ p. p.now) (drop l.f l.frames))) ≡ written_pages (frame_pages (stream_of (packets_view l.source)) 2 0 0 (map (λ p. p.now) l.frames));
}
