use Rattle.std.proofs.Common.{◌≡◌, true, is_some, subst, sym}
use Rattle.thr_setup.specs.Setup.{contents}
use Rattle.thr_frame.specs.Parsed.{needs_frame}
use Rattle.thr_frame.specs.Step.{state_of}
use Rattle.enc_frame.specs.Encoding.{Encoding, Leads}
use Rattle.enc_frame.proofs.StateLemmas.{has_frame, leads}
use Rattle.enc_frame.proofs.encoder.Encoder.take.Goals as goal

pub returns-clause-leads : goal.returns-clause-leads
returns-clause-leads c =
    let e = c.self.inside in
    let packet = c.args.packet.now in
    let there = subst (λ (v : Encoding). needs_frame packet ≡ true → is_some v.state ≡ true) (sym c.self.view_is) c.requires.first in
    subst (λ (v : Encoding). Leads v.setup v.shape v.state packet (state_of c.show.new.store)) c.self.view_is
    (leads (contents e.setup) e.geom e.store c.show.new.store packet c.self.invariant.1 c.requires.some (has_frame e.store (needs_frame packet) there) c.in_ok-show.ensures.value c.in_ok-show.ensures.started)
