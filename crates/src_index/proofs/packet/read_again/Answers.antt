use Rattle.std.proofs.Common.{rules, ◌≡◌, ◌+◌, ◌∙◌, take, drop, length, sum, ap, true, arith}
use Rattle.vid_desk.specs.Meaning.{bytes_at}
use Rattle.src_index.specs.Pages.{kept_mark}
use Rattle.src_index.specs.SamePage.{same_page}
use Rattle.src_index.proofs.GatherLemmas.{body_again, page_inside, same_again, written_whole}
use Rattle.src_index.proofs.packet.read_again.Goals as goal

pub read_at-requires-clause-range : goal.read_at-requires-clause-range
read_at-requires-clause-range g c = λ files told.
    omega (arith, page_inside (bytes_at files c.args.id) (kept_mark c.args.kept) (c.requires.stands files told), c.page_size.ensures.value, c.deref_mut.ensures.len, c.in-Ok.ensures)

pub returns-then-not-same_page-clause-never : goal.returns-then-not-same_page-clause-never
returns-then-not-same_page-clause-never g c = λ files told e.
    let bytes = bytes_at files c.args.id in
    let mark = kept_mark c.args.kept in
    let size = 27 + length mark.lacing + sum mark.lacing in
    let long : length c.deref_mut.result.now ≡ size = omega (arith, c.page_size.ensures.value, c.deref_mut.ensures.len, c.in-Ok.ensures) in
    let same_long : length c.read_at.new.buf ≡ length c.deref_mut.result.now = search rules in
    let read : c.read_at.new.buf ≡ take size (drop mark.at bytes) = c.in-Ok-read_at.ensures.bytes files told ∙ ap (λ n. take n (drop mark.at bytes)) long in
    let whole : c.deref.result.now ≡ c.read_at.new.buf = c.deref.ensures.value ∙ written_whole c.in-Ok.page.len c.read_at.new.buf (drop (length c.read_at.new.buf) c.in-Ok.page.items) (omega (arith, same_long, long, c.in-Ok.ensures, c.page_size.ensures.value)) in
    let yes : c.same_page.result ≡ true = c.same_page.ensures ∙ ap (λ xs. same_page xs mark.checksum mark.lacing) (whole ∙ read) ∙ same_again bytes mark (c.requires.stands files told) in
    cc (yes, c.if-not-same_page.true)

pub returns-clause-bytes : goal.returns-clause-bytes
returns-clause-bytes g c = λ files told.
    let bytes = bytes_at files c.args.id in
    let mark = kept_mark c.args.kept in
    let size = 27 + length mark.lacing + sum mark.lacing in
    let long : length c.deref_mut.result.now ≡ size = omega (arith, c.page_size.ensures.value, c.deref_mut.ensures.len, c.in-Ok.ensures) in
    let same_long : length c.read_at.new.buf ≡ length c.deref_mut.result.now = search rules in
    let read : c.read_at.new.buf ≡ take size (drop mark.at bytes) = c.in-Ok-read_at.ensures.bytes files told ∙ ap (λ n. take n (drop mark.at bytes)) long in
    ap (drop (27 + length mark.lacing)) (written_whole c.in-Ok.page.len c.read_at.new.buf (drop (length c.read_at.new.buf) c.in-Ok.page.items) (omega (arith, same_long, long, c.in-Ok.ensures, c.page_size.ensures.value)) ∙ read) ∙ body_again bytes mark
