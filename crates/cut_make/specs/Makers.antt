-- What a film is made with, and how far it has come (private).
use Rattle.std.specs.Prelude.{◌≡◌, ℕ, List, ◌++◌}
use Rattle.std.specs.List.{flat_map}
use Rattle.vid_desk.specs.Meaning.{Meaning}
use Rattle.cut_desk.specs.Making.{Adds}
use Rattle.y4m_io.specs.Generator.{generated, generated_frames}
use Rattle.y4m_io.specs.Pictures.{IsPicture, Samples, samples_of}
use Rattle.y4m_io.specs.Y4m.{frame_text}
use Rattle.cut_make.specs.declared.film.Film.{Film}
use Rattle.cut_make.specs.declared.maker.Maker.{Maker}
use Rattle.cut_make.specs.Films.{IsFilm}

-- frame n of a film
abbrev pub frame_of : Film → ℕ → Samples
frame_of film n = generated film.start n film.w film.h

-- its first n frames as text
abbrev pub frames_text : Film → ℕ → List ℕ
frames_text film n = flat_map frame_text (generated_frames film.start n film.w film.h)

-- a maker has a picture of its film's size
pub record IsMaker (maker : Maker) : Type 0 where
  pub film : IsFilm maker.film
  pub picture : IsPicture (samples_of maker.picture)
  pub width : maker.picture.w ≡ maker.film.w
  pub height : maker.picture.h ≡ maker.film.h
  pub format : maker.picture.pf ≡ 0

-- a first part of this text came to an output
abbrev pub AddsPart : Meaning → Meaning → ℕ → List ℕ → Type 0
AddsPart old new id text = (came : List ℕ) × (rest : List ℕ) × (text ≡ came ++ rest) × Adds old new id came
