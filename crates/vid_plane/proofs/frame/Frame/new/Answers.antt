use Rattle.std.proofs.Common.{sym, subst}
use Rattle.vid_plane.specs.Frames.{IsPlaneOf}
use Rattle.vid_plane.proofs.FrameLemmas.{IsPlaneOf-blank}
use Rattle.vid_plane.proofs.frame.Frame.new.Goals as goal

pub returns-clause-sized : goal.returns-clause-sized
returns-clause-sized c = record {
  y = subst (IsPlaneOf c.args.shape 0) (sym c.in_ok-y.ensures) (IsPlaneOf-blank c.args.shape 0);
  cb = subst (IsPlaneOf c.args.shape 1) (sym c.in_ok-cb.ensures) (IsPlaneOf-blank c.args.shape 1);
  cr = subst (IsPlaneOf c.args.shape 2) (sym c.in_ok-cr.ensures) (IsPlaneOf-blank c.args.shape 2);
}
