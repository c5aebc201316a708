use Rattle.std.proofs.Common.{◌≡◌, ◌∙◌, length, arith, rules}
use Rattle.y4m_io.specs.Pictures.{samples_of}
use Rattle.y4m_io.specs.Y4m.{frame_text}
use Rattle.cut_make.specs.Makers.{frame_of}
use Rattle.cut_make.proofs.FilmLemmas.{frame_most, shown_format, shown_height, shown_width}
use Rattle.cut_make.proofs.PartLemmas.{part_none}
use Rattle.cut_make.proofs.maker.Maker.add_frame.Goals as goal

pub returns-then-is_err-clause-part : goal.returns-then-is_err-clause-part
returns-then-is_err-clause-part g c = part_none (g.D.Desk.sees c.args.desk.now) c.args.id (frame_text (frame_of c.args.self.now.film c.args.n))

pub returns-then-is_err-clause-maker : goal.returns-then-is_err-clause-maker
returns-then-is_err-clause-maker g c = record {
  film = c.requires.maker.film;
  picture = c.make_frame.ensures.whole;
  width = shown_width c.make_frame.new.into c.args.self.now.film.start c.args.n c.args.self.now.picture.w c.args.self.now.picture.h c.make_frame.ensures.value ∙ c.requires.maker.width;
  height = shown_height c.make_frame.new.into c.args.self.now.film.start c.args.n c.args.self.now.picture.w c.args.self.now.picture.h c.make_frame.ensures.value ∙ c.requires.maker.height;
  format = shown_format c.make_frame.new.into c.args.self.now.film.start c.args.n c.args.self.now.picture.w c.args.self.now.picture.h c.make_frame.ensures.value;
}

pub returns-in-Ok-clause-few : goal.returns-in-Ok-clause-few
returns-in-Ok-clause-few g c =
    let size : c.in-Ok.bytes ≡ length (frame_text (samples_of c.make_frame.new.into)) = search rules in
    omega (arith, size, frame_most (samples_of c.make_frame.new.into) c.make_frame.ensures.whole)

pub returns-in-Ok-clause-maker : goal.returns-in-Ok-clause-maker
returns-in-Ok-clause-maker g c = record {
  film = c.requires.maker.film;
  picture = c.make_frame.ensures.whole;
  width = shown_width c.make_frame.new.into c.args.self.now.film.start c.args.n c.args.self.now.picture.w c.args.self.now.picture.h c.make_frame.ensures.value ∙ c.requires.maker.width;
  height = shown_height c.make_frame.new.into c.args.self.now.film.start c.args.n c.args.self.now.picture.w c.args.self.now.picture.h c.make_frame.ensures.value ∙ c.requires.maker.height;
  format = shown_format c.make_frame.new.into c.args.self.now.film.start c.args.n c.args.self.now.picture.w c.args.self.now.picture.h c.make_frame.ensures.value;
}

pub returns-in-Err-clause-maker : goal.returns-in-Err-clause-maker
returns-in-Err-clause-maker g c = record {
  film = c.requires.maker.film;
  picture = c.make_frame.ensures.whole;
  width = shown_width c.make_frame.new.into c.args.self.now.film.start c.args.n c.args.self.now.picture.w c.args.self.now.picture.h c.make_frame.ensures.value ∙ c.requires.maker.width;
  height = shown_height c.make_frame.new.into c.args.self.now.film.start c.args.n c.args.self.now.picture.w c.args.self.now.picture.h c.make_frame.ensures.value ∙ c.requires.maker.height;
  format = shown_format c.make_frame.new.into c.args.self.now.film.start c.args.n c.args.self.now.picture.w c.args.self.now.picture.h c.make_frame.ensures.value;
}
