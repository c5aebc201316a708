use Rattle.std.proofs.Common.{[], refl, arith, rules, ◌≡◌, length}
use Rattle.cut_slice.specs.Copy.{lacing_of}
use Rattle.cut_slice.proofs.CopyLemmas.{packet_shape}
use Rattle.cut_desk.proofs.MakingLemmas.{adds_none}
use Rattle.cut_slice.proofs.copy.add_packet.Goals as goal

pub returns-then-is_err-clause-part : goal.returns-then-is_err-clause-part
returns-then-is_err-clause-part g c = ([], adds_none (g.D.Desk.sees c.args.desk.now) (g.D.Desk.sees c.args.desk.now) c.args.id refl (omega arith))

pub add_page-requires-clause-shape : goal.add_page-requires-clause-shape
add_page-requires-clause-shape g c =
    let lacing : c.deref.result.now ≡ lacing_of (length c.args.packet.now) = search rules in
    rw lacing (packet_shape c.args.packet.now c.requires.short)
