use Rattle.std.proofs.Common.{arith}
use Rattle.vid_plane.proofs.BorderLemmas.{put_mid_written}
use Rattle.vid_plane.proofs.border.put_eight.Goals as goal

pub returns-clause-value : goal.returns-clause-value
returns-clause-value c = put_mid_written c.args.buffer.now c.args.at _ _ c.args.row.now c.copy_from_slice.ensures.after (omega arith) (omega arith)
