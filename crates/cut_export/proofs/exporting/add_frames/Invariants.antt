use Rattle.std.proofs.Common.{List, ℕ}
use Rattle.cut_desk.specs.Growing.{Grows}
use Rattle.cut_export.specs.Films.{FilmIsFar, IsFilmOf, Stays, ToldTrack}
use Rattle.cut_export.proofs.exporting.add_frames.Given as goal

-- the pictures so far came to the output
abbrev pub invariant-frames : goal.invariant-frames
invariant-frames g l = record {
  came : List ℕ;
  grows : Grows (g.D.Desk.sees l.fn.desk) (g.D.Desk.sees l.desk) l.id came;
  film_of : IsFilmOf l.source l.film;
  stays : Stays l.fn.film l.film;
  far : ToldTrack (g.D.Desk.sees l.fn.desk) l.source.input (λ packets. FilmIsFar l.film packets l.n came);
}
