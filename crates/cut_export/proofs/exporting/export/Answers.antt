use Rattle.std.proofs.Common.{◌≡◌, ◌∙◌, ◌++◌, [], ap}
use Rattle.vid_desk.specs.Meaning.{bytes_at}
use Rattle.y4m_io.specs.Heads.{head_of_ident}
use Rattle.y4m_io.specs.Y4m.{head_text}
use Rattle.cut_desk.specs.Growing.{IsGrowing}
use Rattle.cut_desk.proofs.GrowingLemmas.{grown_at_most, growing_more, growing_new, makes_grown}
use Rattle.cut_export.specs.Exported.{IsExport}
use Rattle.cut_export.proofs.FilmLemmas.{created_none, exported, index_by, writing_not_changed, writing_not_read, writing_only, writing_rose}
use Rattle.cut_export.proofs.exporting.export.Goals as goal

pub returns-in-Err-clause-never : goal.returns-in-Err-clause-never
returns-in-Err-clause-never g c = λ files told err. writing_not_changed c.writing.result c.in-Err.fault c.writing.ensures err

pub returns-in-Err-clause-read : goal.returns-in-Err-clause-read
returns-in-Err-clause-read g c = λ err. absurd (writing_not_read c.writing.result c.in-Err.fault c.writing.ensures err)

pub returns-in-Err-clause-write : goal.returns-in-Err-clause-write
returns-in-Err-clause-write g c = λ err. writing_rose (g.D.Desk.sees c.args.desk.now).write_faults (g.D.Desk.sees c.create.new.self).write_faults c.writing.result c.in-Err.fault c.writing.ensures c.in-Err.ensures.cause err

pub returns-in-Err-clause-only : goal.returns-in-Err-clause-only
returns-in-Err-clause-only g c = writing_only c.writing.result c.in-Err.fault c.writing.ensures

pub returns-in-Err-clause-outputs : goal.returns-in-Err-clause-outputs
returns-in-Err-clause-outputs g c = created_none (g.D.Desk.sees c.args.desk.now) (g.D.Desk.sees c.create.new.self) c.args.out.now c.in-Err.fault c.in-Err.ensures.made

pub returns-in-Err-add_head-clause-outputs : goal.returns-in-Err-add_head-clause-outputs
returns-in-Err-add_head-clause-outputs g c =
    let created : IsGrowing (g.D.Desk.sees c.args.desk.now) (g.D.Desk.sees c.create.new.self) c.in-Ok-create.id c.args.out.now [] = growing_new _ _ c.in-Ok-create.id c.args.out.now c.in-Ok-create.ensures.made c.create.ensures.cause.later in
    grown_at_most _ _ (g.D.Desk.sees c.add_head.new.desk) c.in-Ok-create.id c.args.out.now [] created c.in-Err-add_head.ensures.part

pub returns-in-Ok-add_frames-clause-outputs : goal.returns-in-Ok-add_frames-clause-outputs
returns-in-Ok-add_frames-clause-outputs g c =
    let created : IsGrowing (g.D.Desk.sees c.args.desk.now) (g.D.Desk.sees c.create.new.self) c.in-Ok-create.id c.args.out.now [] = growing_new _ _ c.in-Ok-create.id c.args.out.now c.in-Ok-create.ensures.made c.create.ensures.cause.later in
    let headed = growing_more _ _ _ c.in-Ok-create.id c.args.out.now [] _ created c.in-Ok-add_head.ensures.added in
    let added = c.in-Ok-add_frames.ensures.added in
    grown_at_most _ _ (g.D.Desk.sees c.add_frames.new.desk) c.in-Ok-create.id c.args.out.now _ headed (added.0, added.1)

pub returns-clause-outputs : goal.returns-clause-outputs
returns-clause-outputs g c =
    let created : IsGrowing (g.D.Desk.sees c.args.desk.now) (g.D.Desk.sees c.create.new.self) c.in-Ok-create.id c.args.out.now [] = growing_new _ _ c.in-Ok-create.id c.args.out.now c.in-Ok-create.ensures.made c.create.ensures.cause.later in
    let headed = growing_more _ _ _ c.in-Ok-create.id c.args.out.now [] _ created c.in-Ok-add_head.ensures.added in
    grown_at_most _ _ (g.D.Desk.sees c.add_frames.new.desk) c.in-Ok-create.id c.args.out.now _ headed c.in-Err-add_frames.ensures.part

pub returns-in-Ok-add_frames-clause-written : goal.returns-in-Ok-add_frames-clause-written
returns-in-Ok-add_frames-clause-written g c = λ files told packets judged.
    let index = c.args.source.now in
    let created : IsGrowing (g.D.Desk.sees c.args.desk.now) (g.D.Desk.sees c.create.new.self) c.in-Ok-create.id c.args.out.now [] = growing_new _ _ c.in-Ok-create.id c.args.out.now c.in-Ok-create.ensures.made c.create.ensures.cause.later in
    let headed = growing_more _ _ _ c.in-Ok-create.id c.args.out.now [] _ created c.in-Ok-add_head.ensures.added in
    let added = c.in-Ok-add_frames.ensures.added in
    let framed = growing_more _ _ _ c.in-Ok-create.id c.args.out.now _ _ headed added.1 in
    let after = ap (λ m. m.inputs) headed.outside ∙ told in
    let of = index_by (bytes_at files index.input) packets index (c.requires.made.1 files told) judged in
    let same : c.add_frames.new.film.ident ≡ c.in-Ok.film.ident = c.in-Ok-add_frames.ensures.stays.ident ∙ c.in-Ok-add_head.ensures.stays.ident in
    let all : IsExport packets (head_text (head_of_ident c.in-Ok.film.ident) ++ added.0) =
    rw same at (exported (bytes_at files index.input) packets index c.add_frames.new.film added.0 of c.in-Ok-add_frames.ensures.film (added.2 files after packets judged)) in
    (head_text (head_of_ident c.in-Ok.film.ident) ++ added.0, all, makes_grown _ _ c.in-Ok-create.id c.args.out.now _ framed)
