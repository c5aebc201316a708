use Rattle.std.proofs.Common.{[]}
use Rattle.vid_desk.specs.Meaning.{bytes_at}
use Rattle.y4m_io.specs.Pictures.{samples_of}
use Rattle.y4m_io.specs.Y4m.{frame_text}
use Rattle.cut_desk.proofs.GrowingLemmas.{grows_behind, grows_reads}
use Rattle.cut_export.proofs.FilmLemmas.{count_is, film_more, film_steps, index_by}
use Rattle.cut_export.proofs.film.Film.add_frame.Goals as goal

pub returns-in-Err-clause-part : goal.returns-in-Err-clause-part
returns-in-Err-clause-part g c = ([], grows_reads (g.D.Desk.sees c.args.desk.now) (g.D.Desk.sees c.read.new.desk) c.args.id c.in-Err.ensures.kept c.in-Err.ensures.count)

pub returns-in-Err-show-clause-part : goal.returns-in-Err-show-clause-part
returns-in-Err-show-clause-part g c = ([], grows_reads (g.D.Desk.sees c.args.desk.now) (g.D.Desk.sees c.read.new.desk) c.args.id c.in-Ok.ensures.kept c.in-Ok.ensures.count)

pub returns-in-Err-show-clause-never : goal.returns-in-Err-show-clause-never
returns-in-Err-show-clause-never g c = λ files told packets judged text far err.
    let index = c.args.source.now in
    let bytes = bytes_at files index.input in
    let of = index_by bytes packets index (c.requires.made.1 files told) judged in
    c.in-Err-show.ensures.faulty (film_steps bytes packets index c.args.self.now c.read.new.self c.args.n text judged of c.in-Ok.ensures.film c.in-Ok.ensures.stays c.in-Ok.ensures.state c.requires.frame (c.in-Ok.ensures.packet files told packets judged) far)

pub returns-in-Ok-append-clause-added : goal.returns-in-Ok-append-clause-added
returns-in-Ok-append-clause-added g c =
    let index = c.args.source.now in (
      frame_text (samples_of c.show.new.self.picture),
      grows_behind _ _ _ c.args.id _ (grows_reads (g.D.Desk.sees c.args.desk.now) (g.D.Desk.sees c.read.new.desk) c.args.id c.in-Ok.ensures.kept c.in-Ok.ensures.count) c.in-Ok-append.ensures.added,
      λ files told packets judged text far.
          let bytes = bytes_at files index.input in
          let of = index_by bytes packets index (c.requires.made.1 files told) judged in
          film_more c.args.self.now c.read.new.self c.show.new.self c.append.new.self packets c.args.n text c.in-Ok.ensures.stays c.in-Ok.ensures.state c.in-Ok-show.ensures.shows c.in-Ok-show.ensures.stays c.in-Ok-append.ensures.stays c.in-Ok-append.ensures.state
          (rw (count_is bytes packets index of) c.requires.frame) (c.in-Ok.ensures.packet files told packets judged) far,
    )
