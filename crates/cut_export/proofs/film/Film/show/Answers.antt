use Rattle.std.proofs.Common.{◌∙◌, ap}
use Rattle.thr_frame.specs.Decoding.{Decoding}
use Rattle.cut_export.proofs.FilmLemmas.{film_frame}
use Rattle.cut_export.proofs.film.Film.show.Goals as goal

pub crop-requires-clause-frame : goal.crop-requires-clause-frame
crop-requires-clause-frame c = film_frame c.args.self.now.ident c.step.new.self.shape c.frame.result.now (ap {A = Decoding} (λ d. d.shape) c.in-Ok.ensures.next.becomes ∙ c.requires.film.shape) c.frame.ensures.sized
