use Rattle.std.proofs.Common.{◌∷◌, ap, ◌∙◌, refl}
use Rattle.ogg_mux.specs.Muxing.{rest_of}
use Rattle.ogg_mux.proofs.MuxLemmas.{packet_rest}
use Rattle.ogg_mux.proofs.mux.Mux.packet.Goals as goal

pub returns-clause-all : goal.returns-clause-all
returns-clause-all c more =
    let i = c.self.inside in
    packet_rest (record { serial = i.serial; shift = i.shift; base = i.base; frames = i.frames; key = i.key; held = i.held; ready = i.ready.items; finished = i.finished })
    c.add_packet.new.ready.items c.add_packet.new.held c.args.bytes.now c.last_key-last.result more
    (rw (c.last_key-last.ensures, c.requires.key) refl)
    (λ last ss. rw (c.in_ok-make_room.ensures.items, c.position-granule.ensures) at (c.add_packet.ensures.all last ss))
    ∙ ap (λ m. rest_of m (c.args.bytes.now ∷ more)) c.self.view_is
