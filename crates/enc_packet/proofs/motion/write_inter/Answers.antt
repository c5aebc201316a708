use Rattle.std.proofs.Common.{map}
use Rattle.thr_modes.specs.Vectors.{offset_of}
use Rattle.enc_packet.proofs.MotionLemmas.{inter_back, none_uncoded}
use Rattle.enc_packet.proofs.motion.write_inter.Goals as goal

pub returns-clause-reads_back : goal.returns-clause-reads_back
returns-clause-reads_back c =
    inter_back c.args.geom.now c.args.flags.now c.args.head.now.modes.now (map offset_of c.args.head.now.vectors.now) _ _ _ _ c.requires.flags
    c.in_ok-write_flags.ensures.reads_back
    (c.in_ok-write_modes.ensures.reads_back (none_uncoded c.args.geom.now c.args.flags.now c.args.head.now.modes.now c.requires.flags))
    (c.in_ok-write_vectors.ensures.reads_back (c.in_ok-write_vectors.ensures.chosen c.requires.chosen))
