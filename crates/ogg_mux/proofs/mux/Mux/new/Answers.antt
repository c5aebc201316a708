use Rattle.std.proofs.Common.{◌≡◌, ◌++◌, ℕ, List, ap, ◌∙◌, refl, sym, Some, None}
use Rattle.ogg_mux.specs.OutputPages.{packet_segments, Segment, pages_from, first_page, header_segments, Stream}
use Rattle.ogg_mux.proofs.StreamLemmas.{header_segments-append}
use Rattle.ogg_mux.proofs.MuxLemmas.{new_rest}
use Rattle.ogg_mux.proofs.mux.Mux.new.Goals as goal

pub returns-clause-all : goal.returns-clause-all
returns-clause-all c packets =
    let s : Stream = record { ident = c.args.ident.now; comment = c.args.comment.now; setup = c.args.setup.now; serial = c.args.serial; shift = c.args.shift; base = c.args.base } in
    let all : (last : ℕ) (ss : List Segment) → c.add_packet-3.new.ready.items ++ pages_from s.serial last c.add_packet-3.new.held ss ≡ pages_from s.serial last first_page (header_segments s ++ ss) = λ last ss.
    let setup = packet_segments s.setup 0 (Some 0) ++ ss in
    let comment = packet_segments s.comment 0 None ++ setup in
    c.add_packet-3.ensures.all last ss ∙ ap (λ r. r ++ pages_from s.serial last c.add_packet-2.new.held setup) c.in_ok-make_room-3.ensures.items
    ∙ c.add_packet-2.ensures.all last setup ∙ ap (λ r. r ++ pages_from s.serial last c.add_packet.new.held comment) c.in_ok-make_room-2.ensures.items
    ∙ c.add_packet.ensures.all last comment ∙ rw (c.in_ok-make_room.ensures.items, c.new-ready.ensures.items, c.in_ok-held.ensures) (ap (pages_from s.serial last first_page) (sym (header_segments-append s ss))) in
    rw c.turn.ensures (new_rest s c.add_packet-3.new.ready.items c.write.new.ready.items c.add_packet-3.new.held packets all (c.add_packet-3.ensures.shut refl) c.add_packet-3.ensures.there c.in_ok-write.ensures.written)
