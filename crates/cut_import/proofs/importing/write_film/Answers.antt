use Rattle.std.proofs.Common.{◌≡◌, ◌∙◌, ◌++◌, [], List, ℕ, Some, ap, sym, subst, inl, inr, arith, append_assoc}
use Rattle.vid_desk.specs.Meaning.{Meaning}
use Rattle.ogg_mux.specs.Muxing.{Muxing, rest_of}
use Rattle.cut_report.specs.declared.status.Status.TheVariants.{ReadFault, WriteFault}
use Rattle.cut_desk.specs.Growing.{IsGrowing}
use Rattle.cut_desk.specs.Outputs.{Makes}
use Rattle.cut_desk.proofs.GrowingLemmas.{growing_more, growing_new, growing_same, makes_grown}
use Rattle.y4m_io.specs.Progress.{progress_of}
use Rattle.cut_import.specs.declared.importer.Importer.{Importer}
use Rattle.cut_import.specs.Importers.{AddsSome}
use Rattle.cut_import.proofs.CodeLemmas.{codes_none, ready_first, some_more, taken}
use Rattle.cut_import.proofs.FollowLemmas.{codes_kept, none_read_first}
use Rattle.cut_import.proofs.RefusedLemmas.{none_made, none_read, none_same, rose_since, writing_not_bad, writing_not_read, writing_only, writing_rose}
use Rattle.cut_import.proofs.importing.write_film.Goals as goal

pub returns-in-Err-clause-part : goal.returns-in-Err-clause-part
returns-in-Err-clause-part g c = inl (none_made (g.D.Desk.sees c.args.desk.now) (g.D.Desk.sees c.create.new.self) c.args.out.now c.in-Err.fault c.in-Err.ensures.made)

pub returns-in-Err-clause-departs : goal.returns-in-Err-clause-departs
returns-in-Err-clause-departs g c = λ frame why err files told. absurd (writing_not_bad c.writing.result c.in-Err.fault frame why c.writing.ensures err)

pub returns-in-Err-clause-kept : goal.returns-in-Err-clause-kept
returns-in-Err-clause-kept g c = none_same (g.D.Desk.sees c.args.desk.now) (g.D.Desk.sees c.create.new.self) c.args.out.now c.in-Err.fault c.in-Err.ensures.made

pub returns-in-Err-clause-reads : goal.returns-in-Err-clause-reads
returns-in-Err-clause-reads g c = omega (arith, none_read (g.D.Desk.sees c.args.desk.now) (g.D.Desk.sees c.create.new.self) c.args.out.now c.in-Err.fault c.in-Err.ensures.made)

pub returns-in-Err-clause-read : goal.returns-in-Err-clause-read
returns-in-Err-clause-read g c = λ err. absurd (writing_not_read c.writing.result c.in-Err.fault c.writing.ensures err)

pub returns-in-Err-clause-write : goal.returns-in-Err-clause-write
returns-in-Err-clause-write g c = writing_rose (g.D.Desk.sees c.args.desk.now).write_faults (g.D.Desk.sees c.create.new.self).write_faults c.writing.result c.in-Err.fault c.writing.ensures c.in-Err.ensures.cause

pub returns-in-Err-clause-only : goal.returns-in-Err-clause-only
returns-in-Err-clause-only g c = writing_only c.writing.result c.in-Err.fault c.writing.ensures

pub returns-in-Err-append-clause-part : goal.returns-in-Err-append-clause-part
returns-in-Err-append-clause-part g c =
    let created : IsGrowing (g.D.Desk.sees c.args.desk.now) (g.D.Desk.sees c.create.new.self) c.in-Ok.id c.args.out.now [] = growing_new (g.D.Desk.sees c.args.desk.now) (g.D.Desk.sees c.create.new.self) c.in-Ok.id c.args.out.now c.in-Ok.ensures.made c.create.ensures.cause.later in
    let m : Muxing = c.args.importer.now.mux in
    let first = ready_first m [] in
    let some : AddsSome (g.D.Desk.sees c.create.new.self) (g.D.Desk.sees c.append.new.desk) c.in-Ok.id (rest_of m []) = some_more (g.D.Desk.sees c.create.new.self) (g.D.Desk.sees c.append.new.desk) c.in-Ok.id m.ready first.0 (rest_of m []) c.in-Err-append.ensures.part first.1 in
    let makes : Makes (g.D.Desk.sees c.args.desk.now) (g.D.Desk.sees c.append.new.desk) c.args.out.now some.came = makes_grown (g.D.Desk.sees c.args.desk.now) (g.D.Desk.sees c.append.new.desk) c.in-Ok.id c.args.out.now some.came (growing_more (g.D.Desk.sees c.args.desk.now) (g.D.Desk.sees c.create.new.self) (g.D.Desk.sees c.append.new.desk) c.in-Ok.id c.args.out.now [] some.came created some.grows) in
    inr (record {
      pictures = [];
      packets = [];
      codes = codes_none _ _ _ 0 c.args.importer.now.encoder.state;
      came = some.came;
      rest = some.rest;
      part = some.part;
      makes = makes;
      first = none_read_first (g.D.Desk.sees c.args.desk.now) (progress_of c.args.y4m.now) c.requires.start c.requires.sound;
    })

pub returns-in-Err-append-clause-kept : goal.returns-in-Err-append-clause-kept
returns-in-Err-append-clause-kept g c =
    let created : IsGrowing (g.D.Desk.sees c.args.desk.now) (g.D.Desk.sees c.create.new.self) c.in-Ok.id c.args.out.now [] = growing_new (g.D.Desk.sees c.args.desk.now) (g.D.Desk.sees c.create.new.self) c.in-Ok.id c.args.out.now c.in-Ok.ensures.made c.create.ensures.cause.later in
    let some = c.in-Err-append.ensures.part in
    growing_same (g.D.Desk.sees c.args.desk.now) (g.D.Desk.sees c.append.new.desk) c.in-Ok.id c.args.out.now some.came (growing_more (g.D.Desk.sees c.args.desk.now) (g.D.Desk.sees c.create.new.self) (g.D.Desk.sees c.append.new.desk) c.in-Ok.id c.args.out.now [] some.came created some.grows)

pub returns-in-Err-append-clause-write : goal.returns-in-Err-append-clause-write
returns-in-Err-append-clause-write g c = rose_since (g.D.Desk.sees c.args.desk.now).write_faults (g.D.Desk.sees c.create.new.self).write_faults (g.D.Desk.sees c.append.new.desk).write_faults c.in-Err-append.status WriteFault c.create.ensures.cause.later c.in-Err-append.ensures.cause

pub returns-in-Ok-add_pictures-clause-written : goal.returns-in-Ok-add_pictures-clause-written
returns-in-Ok-add_pictures-clause-written g c =
    let added = c.in-Ok-add_pictures.ensures.added in
    let m : Muxing = c.args.importer.now.mux in
    let came : List ℕ = rest_of c.append.new.self.mux added.packets in
    let created : IsGrowing (g.D.Desk.sees c.args.desk.now) (g.D.Desk.sees c.create.new.self) c.in-Ok.id c.args.out.now [] = growing_new (g.D.Desk.sees c.args.desk.now) (g.D.Desk.sees c.create.new.self) c.in-Ok.id c.args.out.now c.in-Ok.ensures.made c.create.ensures.cause.later in
    let headed : IsGrowing (g.D.Desk.sees c.args.desk.now) (g.D.Desk.sees c.append.new.desk) c.in-Ok.id c.args.out.now c.args.importer.now.mux.ready = growing_more (g.D.Desk.sees c.args.desk.now) (g.D.Desk.sees c.create.new.self) (g.D.Desk.sees c.append.new.desk) c.in-Ok.id c.args.out.now [] c.args.importer.now.mux.ready created c.in-Ok-append.ensures.added in
    let all : m.ready ++ came ≡ rest_of m added.packets = ap {A = Importer} (λ i. m.ready ++ rest_of i.mux added.packets) c.append.ensures.kept ∙ taken m added.packets in
    record {
      pictures = added.pictures;
      packets = added.packets;
      codes = codes_kept c.args.importer.now c.append.new.self added.pictures added.packets c.append.ensures.kept added.codes;
      makes = subst (λ (t : List ℕ). Makes (g.D.Desk.sees c.args.desk.now) (g.D.Desk.sees c.add_pictures.new.desk) c.args.out.now t) all (makes_grown (g.D.Desk.sees c.args.desk.now) (g.D.Desk.sees c.add_pictures.new.desk) c.in-Ok.id c.args.out.now (m.ready ++ came) (growing_more (g.D.Desk.sees c.args.desk.now) (g.D.Desk.sees c.append.new.desk) (g.D.Desk.sees c.add_pictures.new.desk) c.in-Ok.id c.args.out.now c.args.importer.now.mux.ready came headed added.grows));
      count_is = added.count_is;
      few = added.few;
      all = λ files told.
          let after : (g.D.Desk.sees c.append.new.desk).inputs ≡ Some files = ap {A = Meaning} (λ m. m.inputs) c.in-Ok-append.ensures.added.grown ∙ ap {A = Meaning} (λ m. m.inputs) c.in-Ok.ensures.made.0 ∙ told in
          added.all files after;
    }

pub returns-in-Ok-add_pictures-clause-kept : goal.returns-in-Ok-add_pictures-clause-kept
returns-in-Ok-add_pictures-clause-kept g c =
    let added = c.in-Ok-add_pictures.ensures.added in
    let came : List ℕ = rest_of c.append.new.self.mux added.packets in
    let created : IsGrowing (g.D.Desk.sees c.args.desk.now) (g.D.Desk.sees c.create.new.self) c.in-Ok.id c.args.out.now [] = growing_new (g.D.Desk.sees c.args.desk.now) (g.D.Desk.sees c.create.new.self) c.in-Ok.id c.args.out.now c.in-Ok.ensures.made c.create.ensures.cause.later in
    let headed : IsGrowing (g.D.Desk.sees c.args.desk.now) (g.D.Desk.sees c.append.new.desk) c.in-Ok.id c.args.out.now c.args.importer.now.mux.ready = growing_more (g.D.Desk.sees c.args.desk.now) (g.D.Desk.sees c.create.new.self) (g.D.Desk.sees c.append.new.desk) c.in-Ok.id c.args.out.now [] c.args.importer.now.mux.ready created c.in-Ok-append.ensures.added in
    growing_same (g.D.Desk.sees c.args.desk.now) (g.D.Desk.sees c.add_pictures.new.desk) c.in-Ok.id c.args.out.now (c.args.importer.now.mux.ready ++ came) (growing_more (g.D.Desk.sees c.args.desk.now) (g.D.Desk.sees c.append.new.desk) (g.D.Desk.sees c.add_pictures.new.desk) c.in-Ok.id c.args.out.now c.args.importer.now.mux.ready came headed added.grows)

pub returns-in-Err-add_pictures-clause-part : goal.returns-in-Err-add_pictures-clause-part
returns-in-Err-add_pictures-clause-part g c =
    let added = c.in-Err-add_pictures.ensures.part in
    let m : Muxing = c.args.importer.now.mux in
    let created : IsGrowing (g.D.Desk.sees c.args.desk.now) (g.D.Desk.sees c.create.new.self) c.in-Ok.id c.args.out.now [] = growing_new (g.D.Desk.sees c.args.desk.now) (g.D.Desk.sees c.create.new.self) c.in-Ok.id c.args.out.now c.in-Ok.ensures.made c.create.ensures.cause.later in
    let headed : IsGrowing (g.D.Desk.sees c.args.desk.now) (g.D.Desk.sees c.append.new.desk) c.in-Ok.id c.args.out.now c.args.importer.now.mux.ready = growing_more (g.D.Desk.sees c.args.desk.now) (g.D.Desk.sees c.create.new.self) (g.D.Desk.sees c.append.new.desk) c.in-Ok.id c.args.out.now [] c.args.importer.now.mux.ready created c.in-Ok-append.ensures.added in
    let all : rest_of m added.packets ≡ (m.ready ++ added.some.came) ++ added.some.rest =
    sym (append_assoc m.ready added.some.came added.some.rest ∙ ap (λ t. m.ready ++ t) (sym added.some.part) ∙ ap {A = Importer} (λ i. m.ready ++ rest_of i.mux added.packets) c.append.ensures.kept ∙ taken m added.packets) in
    inr (record {
      pictures = added.pictures;
      packets = added.packets;
      codes = codes_kept c.args.importer.now c.append.new.self added.pictures added.packets c.append.ensures.kept added.codes;
      came = m.ready ++ added.some.came;
      rest = added.some.rest;
      part = all;
      makes = makes_grown (g.D.Desk.sees c.args.desk.now) (g.D.Desk.sees c.add_pictures.new.desk) c.in-Ok.id c.args.out.now (m.ready ++ added.some.came) (growing_more (g.D.Desk.sees c.args.desk.now) (g.D.Desk.sees c.append.new.desk) (g.D.Desk.sees c.add_pictures.new.desk) c.in-Ok.id c.args.out.now c.args.importer.now.mux.ready added.some.came headed added.some.grows);
      first = λ files told.
          let after : (g.D.Desk.sees c.append.new.desk).inputs ≡ Some files = ap {A = Meaning} (λ m. m.inputs) c.in-Ok-append.ensures.added.grown ∙ ap {A = Meaning} (λ m. m.inputs) c.in-Ok.ensures.made.0 ∙ told in
          added.first files after;
    })

pub returns-in-Err-add_pictures-clause-departs : goal.returns-in-Err-add_pictures-clause-departs
returns-in-Err-add_pictures-clause-departs g c = λ frame why err files told.
    let after : (g.D.Desk.sees c.append.new.desk).inputs ≡ Some files = ap {A = Meaning} (λ m. m.inputs) c.in-Ok-append.ensures.added.grown ∙ ap {A = Meaning} (λ m. m.inputs) c.in-Ok.ensures.made.0 ∙ told in
    c.in-Err-add_pictures.ensures.departs frame why err files after

pub returns-in-Err-add_pictures-clause-kept : goal.returns-in-Err-add_pictures-clause-kept
returns-in-Err-add_pictures-clause-kept g c =
    let added = c.in-Err-add_pictures.ensures.part in
    let created : IsGrowing (g.D.Desk.sees c.args.desk.now) (g.D.Desk.sees c.create.new.self) c.in-Ok.id c.args.out.now [] = growing_new (g.D.Desk.sees c.args.desk.now) (g.D.Desk.sees c.create.new.self) c.in-Ok.id c.args.out.now c.in-Ok.ensures.made c.create.ensures.cause.later in
    let headed : IsGrowing (g.D.Desk.sees c.args.desk.now) (g.D.Desk.sees c.append.new.desk) c.in-Ok.id c.args.out.now c.args.importer.now.mux.ready = growing_more (g.D.Desk.sees c.args.desk.now) (g.D.Desk.sees c.create.new.self) (g.D.Desk.sees c.append.new.desk) c.in-Ok.id c.args.out.now [] c.args.importer.now.mux.ready created c.in-Ok-append.ensures.added in
    growing_same (g.D.Desk.sees c.args.desk.now) (g.D.Desk.sees c.add_pictures.new.desk) c.in-Ok.id c.args.out.now (c.args.importer.now.mux.ready ++ added.some.came) (growing_more (g.D.Desk.sees c.args.desk.now) (g.D.Desk.sees c.append.new.desk) (g.D.Desk.sees c.add_pictures.new.desk) c.in-Ok.id c.args.out.now c.args.importer.now.mux.ready added.some.came headed added.some.grows)

pub returns-in-Err-add_pictures-clause-read : goal.returns-in-Err-add_pictures-clause-read
returns-in-Err-add_pictures-clause-read g c =
    let created : (g.D.Desk.sees c.create.new.self).read_faults ≡ (g.D.Desk.sees c.args.desk.now).read_faults = ap {A = Meaning} (λ m. m.read_faults) c.in-Ok.ensures.made.0 in
    rose_since (g.D.Desk.sees c.args.desk.now).read_faults (g.D.Desk.sees c.append.new.desk).read_faults (g.D.Desk.sees c.add_pictures.new.desk).read_faults c.in-Err-add_pictures.status ReadFault (omega (arith, created, c.in-Ok-append.ensures.added.read_later)) c.in-Err-add_pictures.ensures.read

pub returns-in-Err-add_pictures-clause-write : goal.returns-in-Err-add_pictures-clause-write
returns-in-Err-add_pictures-clause-write g c = rose_since (g.D.Desk.sees c.args.desk.now).write_faults (g.D.Desk.sees c.append.new.desk).write_faults (g.D.Desk.sees c.add_pictures.new.desk).write_faults c.in-Err-add_pictures.status WriteFault (omega (arith, c.create.ensures.cause.later, c.in-Ok-append.ensures.added.write_later)) c.in-Err-add_pictures.ensures.write
