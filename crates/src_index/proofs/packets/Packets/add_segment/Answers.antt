use Rattle.std.proofs.Common.{rules, ◌≡◌, ◌∙◌, ◌++◌, true, false, Ok, [], refl, ap, sym, subst}
use Rattle.ogg_link.specs.Progress.{counted, after_piece}
use Rattle.ogg_page.specs.Packets.{packets_from}
use Rattle.ogg_link.specs.declared.state.Counted.{Counted}
use Rattle.ogg_link.specs.declared.state.Progress.{Progress}
use Rattle.src_index.specs.Kept.{Kept, with_end, with_bytes, with_place}
use Rattle.src_index.specs.Checks.{packet_step, packets_over}
use Rattle.src_index.specs.Refusing.{RefusesPacket}
use Rattle.src_index.specs.Holding.{kept_of, place_of}
use Rattle.src_index.specs.Headers.{said_of}
use Rattle.src_index.proofs.PieceLemmas.{ends_so, goes_on_so, left_none, left_more, none_begun, piece_goes_on, piece_passes, piece_refused, piece_tallied}
use Rattle.src_index.proofs.packets.Packets.add_segment.Goals as goal

pub returns-in-Err-clause-fault : goal.returns-in-Err-clause-fault
returns-in-Err-clause-fault c =
    let headers = said_of c.args.self.now.headers in
    let book = c.args.book in
    let begun = c.args.self.now.begun.items in
    let packet = begun ++ c.args.bytes.now in
    let ends : c.args.ends ≡ true = ends_so c.args.ends Counted c.with_piece-counted.result.1 c.in-Some.counted c.with_piece-counted.ensures.goes_on c.in-Some.is in
    let counts : c.in-Some.counted ≡ counted book.packets book.last_key packet = cc (c.in-Some.is, c.with_piece-counted.ensures.counted ends begun c.requires.holds) in
    let grown : c.extend_from_slice.new.self.items ≡ packet = search rules in
    let refuses : RefusesPacket c.args.at book.packets c.in-Err.refusal (packet_step headers (counted book.packets book.last_key packet) packet) =
    subst (λ (k : Counted). RefusesPacket c.args.at k.number c.in-Err.refusal (packet_step headers k packet)) counts
    (subst (λ p. RefusesPacket c.args.at c.in-Some.counted.number c.in-Err.refusal (packet_step headers c.in-Some.counted p)) grown c.in-Err.ensures.fault) in
    λ more. rw ends (piece_refused c.args.at book headers begun c.args.bytes.now more c.in-Err.refusal refuses)

pub returns-in-Ok-clause-tallied : goal.returns-in-Ok-clause-tallied
returns-in-Ok-clause-tallied c =
    let begun = c.args.self.now.begun.items in
    let packet = begun ++ c.args.bytes.now in
    let ends : c.args.ends ≡ true = ends_so c.args.ends Counted c.with_piece-counted.result.1 c.in-Some.counted c.with_piece-counted.ensures.goes_on c.in-Some.is in
    let counts : c.in-Some.counted ≡ counted c.args.book.packets c.args.book.last_key packet = cc (c.in-Some.is, c.with_piece-counted.ensures.counted ends begun c.requires.holds) in
    let grown : c.extend_from_slice.new.self.items ≡ packet = search rules in
    let step : packet_step (said_of c.args.self.now.headers) (counted c.args.book.packets c.args.book.last_key packet) packet ≡ Ok (said_of c.end.new.self.headers) =
    (λ i. packet_step (said_of c.args.self.now.headers) (sym counts i) (sym grown i)) ∙ c.in-Ok.ensures.said in
    let kept : record (kept_of c.end.new.self) { place = place_of c.args.next } ≡ with_place (place_of c.args.next) (with_end (with_bytes c.args.bytes.now (kept_of c.args.self.now))) =
    ap (with_place (place_of c.args.next)) (c.in-Ok.ensures.kept ∙ ap with_end (λ i. record (kept_of c.args.self.now) { begun = grown i })) in
    piece_tallied c.args.book c.with_piece-counted.result.0 c.args.self.now.headers c.end.new.self.headers begun c.args.bytes.now (kept_of c.args.self.now) (record (kept_of c.end.new.self) { place = place_of c.args.next }) (place_of c.args.next)
    (c.with_piece-counted.ensures.behind ∙ ap (λ e. after_piece c.args.book (record { bytes = c.args.bytes.now; ends = e })) ends) c.requires.holds refl refl step kept c.requires.tallied

pub returns-in-Ok-clause-said : goal.returns-in-Ok-clause-said
returns-in-Ok-clause-said c = λ more.
    let begun = c.args.self.now.begun.items in
    let packet = begun ++ c.args.bytes.now in
    let ends : c.args.ends ≡ true = ends_so c.args.ends Counted c.with_piece-counted.result.1 c.in-Some.counted c.with_piece-counted.ensures.goes_on c.in-Some.is in
    let counts : c.in-Some.counted ≡ counted c.args.book.packets c.args.book.last_key packet = cc (c.in-Some.is, c.with_piece-counted.ensures.counted ends begun c.requires.holds) in
    let grown : c.extend_from_slice.new.self.items ≡ packet = search rules in
    let step : packet_step (said_of c.args.self.now.headers) (counted c.args.book.packets c.args.book.last_key packet) packet ≡ Ok (said_of c.end.new.self.headers) =
    (λ i. packet_step (said_of c.args.self.now.headers) (sym counts i) (sym grown i)) ∙ c.in-Ok.ensures.said in
    let none : c.end.new.self.begun.items ≡ [] = ap (λ (k : Kept). k.begun) c.in-Ok.ensures.kept ∙ none_begun _ in
    ap (λ (b : Progress). packets_over c.args.at b.packets b.last_key (said_of c.end.new.self.headers) (packets_from c.end.new.self.begun.items more)) c.with_piece-counted.ensures.behind
    ∙ ap (λ f. packets_over c.args.at (after_piece c.args.book (record { bytes = c.args.bytes.now; ends = c.args.ends })).packets (after_piece c.args.book (record { bytes = c.args.bytes.now; ends = c.args.ends })).last_key (said_of c.end.new.self.headers) (packets_from f more)) none
    ∙ rw ends (piece_passes c.args.at c.args.book (said_of c.args.self.now.headers) (said_of c.end.new.self.headers) begun c.args.bytes.now more c.requires.holds step)

pub returns-in-Ok-clause-begun : goal.returns-in-Ok-clause-begun
returns-in-Ok-clause-begun c =
    let ends : c.args.ends ≡ true = ends_so c.args.ends Counted c.with_piece-counted.result.1 c.in-Some.counted c.with_piece-counted.ensures.goes_on c.in-Some.is in
    let none : c.end.new.self.begun.items ≡ [] = ap (λ (k : Kept). k.begun) c.in-Ok.ensures.kept ∙ none_begun _ in
    rw ends (none ∙ sym (left_none c.args.self.now.begun.items c.args.bytes.now))

pub returns-in_default-clause-said : goal.returns-in_default-clause-said
returns-in_default-clause-said c = λ more.
    let begun = c.args.self.now.begun.items in
    let on : c.args.ends ≡ false = goes_on_so c.args.ends Counted c.with_piece-counted.result.1 (counted c.args.book.packets c.args.book.last_key (begun ++ c.args.bytes.now)) (λ e. c.with_piece-counted.ensures.counted e begun c.requires.holds) c.in_default.not-Some in
    let grown : c.extend_from_slice.new.self.items ≡ begun ++ c.args.bytes.now = search rules in
    ap (λ (b : Progress). packets_over c.args.at b.packets b.last_key (said_of c.args.self.now.headers) (packets_from c.extend_from_slice.new.self.items more)) c.with_piece-counted.ensures.behind
    ∙ ap (λ f. packets_over c.args.at (after_piece c.args.book (record { bytes = c.args.bytes.now; ends = c.args.ends })).packets (after_piece c.args.book (record { bytes = c.args.bytes.now; ends = c.args.ends })).last_key (said_of c.args.self.now.headers) (packets_from f more)) grown
    ∙ rw on (piece_goes_on c.args.at c.args.book (said_of c.args.self.now.headers) begun c.args.bytes.now more)

pub returns-in_default-clause-begun : goal.returns-in_default-clause-begun
returns-in_default-clause-begun c =
    let begun = c.args.self.now.begun.items in
    let on : c.args.ends ≡ false = goes_on_so c.args.ends Counted c.with_piece-counted.result.1 (counted c.args.book.packets c.args.book.last_key (begun ++ c.args.bytes.now)) (λ e. c.with_piece-counted.ensures.counted e begun c.requires.holds) c.in_default.not-Some in
    let grown : c.extend_from_slice.new.self.items ≡ begun ++ c.args.bytes.now = search rules in
    rw on (grown ∙ sym (left_more begun c.args.bytes.now))
