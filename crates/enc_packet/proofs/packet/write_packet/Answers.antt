use Rattle.std.proofs.Common.{◌∙◌, ◌<◌, rules, ap, length, map}
use Rattle.std.specs.List.{All}
use Rattle.std.proofs.lemmas.List.{length-map}
use Rattle.vid_base.specs.Bits.{to_byte}
use Rattle.vid_geom.specs.ByBlock.{by_block}
use Rattle.vid_geom.proofs.ByBlockLemmas.{length-by_block}
use Rattle.thr_setup.specs.Setup.{contents}
use Rattle.thr_modes.specs.Vectors.{offset_of}
use Rattle.thr_frame.specs.CodedFrame.{kind_of}
use Rattle.enc_packet.proofs.PacketLemmas.{key_is, needs_is, packet_few, packet_says, some_bytes}
use Rattle.enc_packet.proofs.packet.write_packet.Goals as goal

pub apply_dc-requires-clause-kinds : goal.apply_dc-requires-clause-kinds
apply_dc-requires-clause-kinds c =
    ap length c.requires.kinds ∙ length-map (by_block c.args.geom.now 0 c.args.head.now.modes.now) kind_of ∙ length-by_block c.args.geom.now 0 c.args.head.now.modes.now

pub returns-clause-says : goal.returns-clause-says
returns-clause-says c =
    let fields = c.in_ok-w.ensures.reads_back in
    let undo = c.apply_dc.ensures.reads_back in (
      fields.0,
      packet_says (contents c.args.setup.now) c.args.geom.now c.args.head.now.intra c.args.head.now.qi c.args.head.now.modes.now (map offset_of c.args.head.now.vectors.now)
          c.apply_dc.new.coeffs.values.items c.args.coeffs.now.values.items fields.0 c.in_ok-w.w c.finish-packet.result.items (to_byte (length c.in_ok-w.w)) fields.1 c.finish-packet.ensures (rw (c.requires.flags, c.requires.kinds) at undo),
    )

pub returns-clause-kind : goal.returns-clause-kind
returns-clause-kind c =
    let says = (returns-clause-says c).1 in
    let bytes : All (λ byte. byte < 256) c.finish-packet.result.items = λ k d lt. search rules in
    (needs_is (contents c.args.setup.now) c.args.geom.now c.finish-packet.result.items _ bytes says, key_is (contents c.args.setup.now) c.args.geom.now c.finish-packet.result.items _ bytes says)

pub returns-clause-few : goal.returns-clause-few
returns-clause-few c =
    let says = (returns-clause-says c).1 in
    (some_bytes (contents c.args.setup.now) c.args.geom.now c.finish-packet.result.items _ says, packet_few c.in_ok-w.w c.finish-packet.result.items c.finish-packet.ensures c.in_ok-w.ensures.few)
