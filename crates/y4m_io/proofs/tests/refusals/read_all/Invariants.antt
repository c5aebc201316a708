use Rattle.std.proofs.Common.{◌<◌}
use Rattle.y4m_io.specs.Pictures.{samples_of, IsPictureOf}
use Rattle.y4m_io.specs.Progress.{progress_of, IsOfInput}
use Rattle.y4m_io.proofs.tests.refusals.read_all.Given as goal

-- the stream is of the desk's input, and the picture of its head's size
abbrev pub invariant-loop-frames : goal.invariant-loop-frames
invariant-loop-frames g l = record {
  id : l.y4m.input.id < (g.D.Desk.sees l.desk).found;
  of : IsOfInput (g.D.Desk.sees l.desk) (progress_of l.y4m);
  into : IsPictureOf l.y4m.head.w l.y4m.head.h l.y4m.head.pf (samples_of l.picture);
}
