use Rattle.std.proofs.Common.{arith}
use Rattle.vid_plane.proofs.BorderLemmas.{put_mid_written}
use Rattle.vid_plane.proofs.border.put.Goals as goal

pub returns : goal.returns
returns c = put_mid_written c.args.buffer.now c.args.at _ _ c.args.samples.now c.copy_from_slice.ensures.after (omega arith) (omega arith)
