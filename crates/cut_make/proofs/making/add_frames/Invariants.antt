use Rattle.std.proofs.Common.{◌≡◌, ◌*◌, ◌^◌, ◌≤◌, length}
use Rattle.cut_desk.specs.Making.{Adds}
use Rattle.cut_make.specs.Makers.{IsMaker, frames_text}
use Rattle.cut_make.proofs.making.add_frames.Given as goal

-- the pictures so far came to the output
abbrev pub invariant-frames : goal.invariant-frames
invariant-frames g l = record {
  adds : Adds (g.D.Desk.sees l.fn.desk) (g.D.Desk.sees l.desk) l.id (frames_text l.fn.maker.film l.n);
  size : l.bytes ≡ length (frames_text l.fn.maker.film l.n);
  few : l.bytes ≤ l.n * 2 ^ 27;
  ready : IsMaker l.maker;
  same : l.maker.film ≡ l.fn.maker.film;
}
