use Rattle.std.proofs.Common.{rules, ◌≡◌, ◌+◌, ◌-◌, ◌≤◌, ◌++◌, List, ℕ, drop, take, length, length-drop, length-take, ap, sym, ◌∙◌, arith}
use Rattle.std.proofs.lemmas.List.{with_items_is}
use borrow.Rule.Slice.PartMut.{post_of}
use Rattle.vid_desk.specs.Meaning.{bytes_at}
use Rattle.src_index.proofs.AheadLemmas.{piece_more, written_length}
use Rattle.src_index.proofs.ahead.Ahead.read_piece.Goals as goal

pub returns-clause-lies : goal.returns-clause-lies
returns-clause-lies g c = λ files told.
    let lies = c.requires.lies files told in
    let now = c.args.self.now in
    let same = c.deref_mut.result.now in
    let count = now.past + c.min.result - now.past in
    let room : now.past + c.min.result ≤ length now.buf.items = search rules in
    let many : length c.read_at.new.buf ≡ c.min.result = search rules in
    let long : length (take count (drop now.past same)) ≡ c.min.result = omega (arith, length-take count (drop now.past same), length-drop now.past same, room, ap length c.deref_mut.ensures.value) in
    let bytes = bytes_at files now.id in
    let read : c.read_at.new.buf ≡ take c.min.result (drop (now.at + now.past) bytes) = c.in_ok-read_at.ensures.bytes files told ∙ ap (λ n. take n (drop (now.at + now.past) bytes)) long in
    let written = take now.past same ++ (c.read_at.new.buf ++ post_of now.past count same) in
    let all : length written ≡ now.buf.len =
    written_length same c.read_at.new.buf now.past count (omega (arith, room, ap length c.deref_mut.ensures.value)) (omega (arith, many)) ∙ ap length c.deref_mut.ensures.value ∙ sym now.buf.ok.0 in
    record {
      size = lies.size;
      rest = drop c.min.result lies.rest;
      whole = piece_more now.buf.items same c.read_at.new.buf (post_of now.past count same) lies.rest bytes now.at now.first now.past c.min.result c.requires.place.0 (omega (arith, room)) c.deref_mut.ensures.value many lies.whole read
          ∙ ap (λ (items : List ℕ). take (now.past + c.min.result - now.first) (drop now.first items) ++ drop c.min.result lies.rest) (sym (with_items_is now.buf written all));
    }
