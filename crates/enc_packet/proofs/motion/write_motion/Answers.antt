use Rattle.std.proofs.Common.{map}
use Rattle.thr_modes.specs.Vectors.{offset_of}
use Rattle.enc_packet.proofs.MotionLemmas.{intra_back}
use Rattle.enc_packet.proofs.motion.write_motion.Goals as goal

pub returns-then-head-clause-reads_back : goal.returns-then-head-clause-reads_back
returns-then-head-clause-reads_back c =
    rw c.if-head.true (intra_back c.args.geom.now c.args.flags.now c.args.head.now.modes.now (map offset_of c.args.head.now.vectors.now) c.args.w.now c.requires.flags (c.requires.intra c.if-head.true).0 (c.requires.intra c.if-head.true).1)
