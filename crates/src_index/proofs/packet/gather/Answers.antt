use Rattle.std.proofs.Common.{◌≡◌, ◌+◌, ◌-◌, ◌∙◌, length, get_or, take, drop, Some, Err, ap, sym, arith, if◌then◌else◌}
use Rattle.vid_desk.specs.Meaning.{bytes_at}
use Rattle.vid_desk.proofs.MeaningLemmas.{still, reads_twice}
use Rattle.ogg_page.proofs.FrontLemmas.{from_place}
use Rattle.src_index.specs.declared.fault.SourceFault.TheVariants.{Changed}
use Rattle.src_index.specs.Index.{PageMark}
use Rattle.src_index.specs.Gather.{body_at, first_packet, segments_from}
use Rattle.src_index.specs.Pages.{marks_of, no_mark}
use Rattle.src_index.proofs.GatherLemmas.{gather_on, none_past}
use Rattle.src_index.proofs.packet.gather.Goals as goal

pub returns-in-Ok-true-clause-packet : goal.returns-in-Ok-true-clause-packet
returns-in-Ok-true-clause-packet g c = λ files told.
    let bytes = bytes_at files c.args.id in
    let marks = marks_of c.args.pages.now in
    let now = still (g.D.Desk.sees c.args.desk.now) (g.D.Desk.sees c.pages.desk) files c.pages.invariant.kept told in
    let front = 27 + length c.page-kept.result.lacing.now in
    let body : take (length c.deref.result.now - front) (drop front c.deref.result.now) ≡ body_at bytes (get_or marks c.pages.number no_mark) =
    from_place front c.deref.result.now ∙ ap (drop front) c.deref.ensures.value ∙ c.in-Ok.ensures.bytes files now ∙ ap (body_at bytes) c.page-kept.ensures.mark in
    let rest = segments_from bytes marks (record { page = c.pages.number + 1; segment = c.pages.first - length (get_or marks c.pages.number no_mark).lacing }) in
    let lacing : (get_or marks c.pages.number no_mark).lacing ≡ c.page-kept.result.lacing.now = ap (λ (m : PageMark). m.lacing) (sym c.page-kept.ensures.mark) in
    sym (c.pages.invariant.packet files told)
    ∙ gather_on bytes marks c.pages.number c.pages.first no_mark c.pages.into.items (take (length c.deref.result.now - front) (drop front c.deref.result.now)) c.page-kept.result.lacing.now (omega (arith, c.len.ensures)) body lacing
    ∙ c.in-Ok-true.ensures.packet rest
    ∙ ap (λ b. if b then Some c.add_segments.new.into.items else first_packet c.add_segments.new.into.items rest) c.in-Ok-true.field-0-test

pub returns-in-Err-add_segments-clause-never : goal.returns-in-Err-add_segments-clause-never
returns-in-Err-add_segments-clause-never g c = λ files told packet stands short e.
    let bytes = bytes_at files c.args.id in
    let marks = marks_of c.args.pages.now in
    let now = still (g.D.Desk.sees c.args.desk.now) (g.D.Desk.sees c.pages.desk) files c.pages.invariant.kept told in
    let front = 27 + length c.page-kept.result.lacing.now in
    let body : take (length c.deref.result.now - front) (drop front c.deref.result.now) ≡ body_at bytes (get_or marks c.pages.number no_mark) =
    from_place front c.deref.result.now ∙ ap (drop front) c.deref.ensures.value ∙ c.in-Ok.ensures.bytes files now ∙ ap (body_at bytes) c.page-kept.ensures.mark in
    let rest = segments_from bytes marks (record { page = c.pages.number + 1; segment = c.pages.first - length (get_or marks c.pages.number no_mark).lacing }) in
    let lacing : (get_or marks c.pages.number no_mark).lacing ≡ c.page-kept.result.lacing.now = ap (λ (m : PageMark). m.lacing) (sym c.page-kept.ensures.mark) in
    let on = gather_on bytes marks c.pages.number c.pages.first no_mark c.pages.into.items (take (length c.deref.result.now - front) (drop front c.deref.result.now)) c.page-kept.result.lacing.now (omega (arith, c.len.ensures)) body lacing in
    let fault : c.in-Err-add_segments.fault ≡ Changed = cc in
    omega (arith, short, c.in-Err-add_segments.ensures.long (ap (λ f. Err f) fault) rest packet (sym on ∙ c.pages.invariant.packet files told ∙ stands))

pub pages-preserved : goal.pages-preserved
pages-preserved g c = record {
  packet = λ files told.
      let bytes = bytes_at files c.args.id in
      let marks = marks_of c.args.pages.now in
      let now = still (g.D.Desk.sees c.args.desk.now) (g.D.Desk.sees c.pages.desk) files c.pages.invariant.kept told in
      let front = 27 + length c.page-kept.result.lacing.now in
      let body : take (length c.deref.result.now - front) (drop front c.deref.result.now) ≡ body_at bytes (get_or marks c.pages.number no_mark) =
      from_place front c.deref.result.now ∙ ap (drop front) c.deref.ensures.value ∙ c.in-Ok.ensures.bytes files now ∙ ap (body_at bytes) c.page-kept.ensures.mark in
      let rest = segments_from bytes marks (record { page = c.pages.number + 1; segment = c.pages.first - length (get_or marks c.pages.number no_mark).lacing }) in
      let lacing : (get_or marks c.pages.number no_mark).lacing ≡ c.page-kept.result.lacing.now = ap (λ (m : PageMark). m.lacing) (sym c.page-kept.ensures.mark) in
      let on = gather_on bytes marks c.pages.number c.pages.first no_mark c.pages.into.items (take (length c.deref.result.now - front) (drop front c.deref.result.now)) c.page-kept.result.lacing.now (omega (arith, c.len.ensures)) body lacing in
      let later : c.saturating_sub-first.result ≡ c.pages.first - length (get_or marks c.pages.number no_mark).lacing = c.saturating_sub-first.ensures ∙ ap (λ ns. c.pages.first - length ns) (sym lacing) in
      ap (λ k. first_packet c.add_segments.new.into.items (segments_from bytes marks (record { page = c.pages.number + 1; segment = k }))) later
      ∙ sym (c.in-Ok-false.ensures.packet rest ∙ ap (λ b. if b then Some c.add_segments.new.into.items else first_packet c.add_segments.new.into.items rest) c.in-Ok-false.field-0-test) ∙ sym on ∙ c.pages.invariant.packet files told;
  few = c.in-Ok-false.ensures.few;
  kept = reads_twice (g.D.Desk.sees c.args.desk.now) (g.D.Desk.sees c.pages.desk) (g.D.Desk.sees c.read_again.new.desk) c.pages.invariant.kept c.read_again.ensures.reads;
  later = omega (arith, c.pages.invariant.later, c.read_again.ensures.count);
}

pub returns-clause-never : goal.returns-clause-never
returns-clause-never g c = λ files told packet stands short e.
    none_past (bytes_at files c.args.id) (marks_of c.args.pages.now) (record { page = c.pages.number; segment = c.pages.first }) c.pages.into.items packet (omega (arith, c.len.ensures)) (c.pages.invariant.packet files told ∙ stands)
