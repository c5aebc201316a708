use Rattle.std.proofs.Common.{◌≡◌, ◌<◌, Ok, refl, arith}
use Rattle.std.proofs.lemmas.List.Elements.{All-from_get_or}
use Rattle.thr_setup.specs.Setup.{contents}
use Rattle.thr_frame.specs.CodedFrame.{frame_of}
use Rattle.thr_frame.specs.Parsed.{coded_in}
use Rattle.thr_frame.proofs.KeyLemmas.{intra_is}
use Rattle.thr_frame.proofs.parsing.parse_blank.Goals as goal

pub returns-clause-intra : goal.returns-clause-intra
unfolding frame_of coded_in
returns-clause-intra c =
    let said : coded_in (contents c.args.setup.now) c.args.geom.now c.args.packet.now ≡ Ok (frame_of c.read_frame.new.into) = rw (← c.new-r.ensures.left, c.in_ok-read_frame.ensures.value) refl in
    intra_is (contents c.args.setup.now) c.args.geom.now c.args.packet.now (frame_of c.read_frame.new.into) (All-from_get_or (λ byte. byte < 256) c.args.packet.now 0 (λ k h. omega (arith, c.type_inv.packet k))) said
