use Rattle.std.proofs.Common.{ap, arith, length, map}
use Rattle.thr_setup.specs.Setup.{contents}
use Rattle.thr_modes.specs.Vectors.{offset_of}
use Rattle.enc_packet.proofs.PacketLemmas.{fields_back}
use Rattle.enc_packet.proofs.SizeLemmas.{sizes}
use Rattle.enc_packet.proofs.packet.write_fields.Goals as goal

pub returns-clause-reads_back : goal.returns-clause-reads_back
returns-clause-reads_back c =
    let residue = c.in_ok-write_residue.ensures.reads_back in
    let back =
    fields_back (contents c.args.setup.now) c.args.geom.now c.args.head.now.intra c.args.head.now.qi c.args.flags.now c.args.head.now.modes.now (map offset_of c.args.head.now.vectors.now) c.args.coeffs.now.values.items residue.0
    c.new-w.result c.write_head.new.w c.write_motion.new.w c.write_residue.new.w c.requires.flags c.in_ok-write_head.ensures.reads_back c.in_ok-write_motion.ensures.reads_back residue.1 in
    (residue.0, rw c.new-w.ensures at back)

pub returns-clause-few : goal.returns-clause-few
returns-clause-few c =
    let most = sizes c.args.geom.now in
    omega (arith, most.superblocks, most.blocks, most.macro_blocks, ap length c.new-w.ensures, c.in_ok-write_head.ensures.few, c.in_ok-write_motion.ensures.few, c.in_ok-write_residue.ensures.few)
