use Rattle.std.proofs.Common.{◌≡◌, ◌∙◌, List, ℕ, Some, None, refl, ap, sym, subst, inl, inr, arith}
use Rattle.std.proofs.lemmas.Result.{IfErr-weaker, IfOk-weaker}
use Rattle.vid_desk.specs.Meaning.{Meaning, Told, bytes_at}
use Rattle.ogg_mux.specs.Muxing.{least_body, rest_of}
use Rattle.ogg_mux.specs.OutputPages.{paged}
use Rattle.y4m_io.specs.Progress.{Follow, IsStart, progress_of}
use Rattle.y4m_io.proofs.ReadingLemmas.{started_is}
use Rattle.y4m_io.specs.Reading.{HasBadHead}
use Rattle.cut_desk.specs.Outputs.{LeavesOutputs, Makes}
use Rattle.cut_import.specs.Imported.{AreCodes, IsImport, LeavesPart, import_shape, import_stream}
use Rattle.cut_import.specs.Importers.{FollowFirst, LeavesFirst, WritesFilm}
use Rattle.cut_import.proofs.FollowLemmas.{codes_head, makes_reads, no_bad_head, stand_first}
use Rattle.cut_import.proofs.RefusedLemmas.{at_most, none_reads, reads_same, rose_later}
use Rattle.cut_import.proofs.SoundLemmas.{import_judged}
use Rattle.cut_import.proofs.importing.import.Goals as goal

pub write_film-requires-clause-of : goal.write_film-requires-clause-of
write_film-requires-clause-of g c = c.in-Ok.ensures.input.1

pub write_film-requires-clause-start : goal.write_film-requires-clause-start
write_film-requires-clause-start g c = c.in-Ok.ensures.fresh.0

pub write_film-requires-clause-sound : goal.write_film-requires-clause-sound
write_film-requires-clause-sound g c = c.in-Ok.ensures.fresh.1

pub returns-clause-written : goal.returns-clause-written
returns-clause-written g c = IfOk-weaker c.write_film.result (WritesFilm (g.D.Desk.sees c.start.new.desk) (g.D.Desk.sees c.write_film.new.desk) c.args.out.now c.in-Ok-new-2.importer (progress_of c.in-Ok.y4m))
    (λ count. Told (g.D.Desk.sees c.args.desk.now) c.args.input (λ bytes. (written : List ℕ) × IsImport bytes c.args.qi c.args.keys count written × Makes (g.D.Desk.sees c.args.desk.now) (g.D.Desk.sees c.write_film.new.desk) c.args.out.now written))
    (λ count film files told.
    let bytes = bytes_at files c.args.input in
    let p = progress_of c.in-Ok.y4m in
    let i = c.in-Ok-new-2.importer in
    let started : IsStart bytes p = c.in-Ok.ensures.started files told in
    let after : (g.D.Desk.sees c.start.new.desk).inputs ≡ Some files = ap {A = Meaning} (λ m. m.inputs) c.in-Ok.ensures.kept ∙ told in
    let follow : Follow p bytes film.pictures None = subst (λ (n : ℕ). Follow p (bytes_at files n) film.pictures None) c.in-Ok.ensures.input.0 (film.all files after) in
    let codes : AreCodes (import_shape p.head c.args.qi) c.args.qi c.args.keys None 0 film.pictures film.packets =
    rw (← c.head.ensures.value) (codes_head i c.head.result.now c.args.qi c.args.keys film.pictures film.packets c.in-Ok-new-2.ensures.made.0 c.in-Ok-new-2.ensures.made.1 c.in-Ok-new-2.ensures.made.2 c.in-Ok-new-2.ensures.state film.codes) in
    let text : List ℕ = paged least_body (import_stream p.head c.args.qi) film.packets in
    let is : rest_of i.mux film.packets ≡ text = rw (← c.head.ensures.value) (c.in-Ok-new-2.ensures.stream film.packets) in
    let makes : Makes (g.D.Desk.sees c.start.new.desk) (g.D.Desk.sees c.write_film.new.desk) c.args.out.now text = subst (λ (t : List ℕ). Makes (g.D.Desk.sees c.start.new.desk) (g.D.Desk.sees c.write_film.new.desk) c.args.out.now t) is film.makes in (
      text,
      record {
        head = p.head;
        pictures = film.pictures;
        packets = film.packets;
        text = started_is bytes p film.pictures None started follow;
        codes = codes;
        written_is = refl;
        well_formed = import_judged p.head c.args.qi c.args.keys film.pictures film.packets (rw (← c.head.ensures.value) c.in-Ok-new-2.ensures.reads) c.requires.keys.0 c.requires.keys.1 film.few codes;
        count_is = film.count_is;
      },
      makes_reads (g.D.Desk.sees c.args.desk.now) (g.D.Desk.sees c.start.new.desk) (g.D.Desk.sees c.write_film.new.desk) c.args.out.now text c.in-Ok.ensures.kept makes,
    )) c.write_film.ensures.written

pub returns-clause-part : goal.returns-clause-part
returns-clause-part g c = IfErr-weaker c.write_film.result (λ _. LeavesFirst (g.D.Desk.sees c.start.new.desk) (g.D.Desk.sees c.write_film.new.desk) c.args.out.now c.in-Ok-new-2.importer (progress_of c.in-Ok.y4m))
    (λ _. Told (g.D.Desk.sees c.args.desk.now) c.args.input (λ bytes. LeavesPart (g.D.Desk.sees c.args.desk.now) (g.D.Desk.sees c.write_film.new.desk) c.args.out.now bytes c.args.qi c.args.keys))
    (λ status left files told.
    let bytes = bytes_at files c.args.input in
    let p = progress_of c.in-Ok.y4m in
    let i = c.in-Ok-new-2.importer in
    let started : IsStart bytes p = c.in-Ok.ensures.started files told in
    let after : (g.D.Desk.sees c.start.new.desk).inputs ≡ Some files = ap {A = Meaning} (λ m. m.inputs) c.in-Ok.ensures.kept ∙ told in
    elim left [
      | inl none ↦ inl (none_reads (g.D.Desk.sees c.args.desk.now) (g.D.Desk.sees c.start.new.desk) (g.D.Desk.sees c.write_film.new.desk) c.args.out.now c.in-Ok.ensures.kept none)
      | inr first ↦
          let follows : FollowFirst bytes p first.pictures = subst (λ (n : ℕ). FollowFirst (bytes_at files n) p first.pictures) c.in-Ok.ensures.input.0 (first.first files after) in
          inr (
            first.came,
            record {
              head = p.head;
              pictures = first.pictures;
              packets = first.packets;
              rest = first.rest;
              first = stand_first bytes p first.pictures started follows;
              codes = rw (← c.head.ensures.value) (codes_head i c.head.result.now c.args.qi c.args.keys first.pictures first.packets c.in-Ok-new-2.ensures.made.0 c.in-Ok-new-2.ensures.made.1 c.in-Ok-new-2.ensures.made.2 c.in-Ok-new-2.ensures.state first.codes);
              part = sym first.part ∙ rw (← c.head.ensures.value) (c.in-Ok-new-2.ensures.stream first.packets);
            },
            makes_reads (g.D.Desk.sees c.args.desk.now) (g.D.Desk.sees c.start.new.desk) (g.D.Desk.sees c.write_film.new.desk) c.args.out.now first.came c.in-Ok.ensures.kept first.makes,
          )
    ]) c.write_film.ensures.part

pub returns-clause-outputs : goal.returns-clause-outputs
returns-clause-outputs g c = at_most (g.D.Desk.sees c.args.desk.now) (g.D.Desk.sees c.start.new.desk) (g.D.Desk.sees c.write_film.new.desk) c.args.out.now c.in-Ok-new-2.importer (progress_of c.in-Ok.y4m) c.write_film.result c.in-Ok.ensures.kept c.write_film.ensures.written c.write_film.ensures.part

pub returns-clause-departs : goal.returns-clause-departs
returns-clause-departs g c = λ frame why err files told.
    let bytes = bytes_at files c.args.input in
    let p = progress_of c.in-Ok.y4m in
    let started : IsStart bytes p = c.in-Ok.ensures.started files told in
    let after : (g.D.Desk.sees c.start.new.desk).inputs ≡ Some files = ap {A = Meaning} (λ m. m.inputs) c.in-Ok.ensures.kept ∙ told in
    let found = c.write_film.ensures.departs frame why err files after in
    let follow : Follow p bytes found.0 (Some (record { frame = frame; why = why })) = subst (λ (n : ℕ). Follow p (bytes_at files n) found.0 (Some (record { frame = frame; why = why }))) c.in-Ok.ensures.input.0 found.1 in
    inr (p.head, found.0, started_is bytes p found.0 (Some (record { frame = frame; why = why })) started follow)

pub returns-clause-head : goal.returns-clause-head
returns-clause-head g c = λ why. IfErr-weaker c.write_film.result (λ _. LeavesFirst (g.D.Desk.sees c.start.new.desk) (g.D.Desk.sees c.write_film.new.desk) c.args.out.now c.in-Ok-new-2.importer (progress_of c.in-Ok.y4m))
    (λ _. Told (g.D.Desk.sees c.args.desk.now) c.args.input (λ bytes. HasBadHead bytes why → LeavesOutputs (g.D.Desk.sees c.args.desk.now) (g.D.Desk.sees c.write_film.new.desk)))
    (λ status left files told bad. absurd (no_bad_head (bytes_at files c.args.input) (progress_of c.in-Ok.y4m) why (c.in-Ok.ensures.started files told) bad)) c.write_film.ensures.part

pub returns-clause-kept : goal.returns-clause-kept
returns-clause-kept g c = reads_same (g.D.Desk.sees c.args.desk.now) (g.D.Desk.sees c.start.new.desk) (g.D.Desk.sees c.write_film.new.desk) c.in-Ok.ensures.kept c.write_film.ensures.kept

pub returns-clause-reads : goal.returns-clause-reads
returns-clause-reads g c = omega (arith, c.in-Ok.ensures.count, c.write_film.ensures.reads)

pub returns-clause-writes : goal.returns-clause-writes
returns-clause-writes g c =
    let same : (g.D.Desk.sees c.start.new.desk).write_faults ≡ (g.D.Desk.sees c.args.desk.now).write_faults = ap {A = Meaning} (λ m. m.write_faults) c.in-Ok.ensures.kept in
    omega (arith, same, c.write_film.ensures.writes)

pub returns-clause-read : goal.returns-clause-read
returns-clause-read g c = λ err. rose_later (g.D.Desk.sees c.args.desk.now).read_faults (g.D.Desk.sees c.start.new.desk).read_faults (g.D.Desk.sees c.write_film.new.desk).read_faults c.in-Ok.ensures.count (c.write_film.ensures.read err)

pub returns-clause-write : goal.returns-clause-write
returns-clause-write g c = λ err.
    let same : (g.D.Desk.sees c.start.new.desk).write_faults ≡ (g.D.Desk.sees c.args.desk.now).write_faults = ap {A = Meaning} (λ m. m.write_faults) c.in-Ok.ensures.kept in
    rose_later (g.D.Desk.sees c.args.desk.now).write_faults (g.D.Desk.sees c.start.new.desk).write_faults (g.D.Desk.sees c.write_film.new.desk).write_faults (omega (arith, same)) (c.write_film.ensures.write err)

pub returns-clause-only : goal.returns-clause-only
returns-clause-only g c = c.write_film.ensures.only
