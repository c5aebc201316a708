-- Films of generated pictures as YUV4MPEG2, and what making one leaves (own).
use Rattle.std.specs.Prelude.{◌≡◌, ℕ, ◌<◌, ◌≤◌, List, ◌++◌, ◌⊎◌}
use Rattle.vid_desk.specs.Meaning.{Meaning}
use Rattle.y4m_io.specs.Generator.{generated_frames, generated_head}
use Rattle.y4m_io.specs.Y4m.{y4m_of}
use Rattle.cut_desk.specs.Outputs.{Makes, MakesNone}
use Rattle.cut_make.specs.declared.film.Film.{Film}

-- a picture of the film has samples, and neither it nor the film is too large
pub record IsFilm (film : Film) : Type 0 where
  pub wide : 0 < film.w
  pub high : 0 < film.h
  pub narrow : film.w ≤ 1024
  pub low : film.h ≤ 1024
  pub short : film.frames ≤ 10000

-- its head and its pictures, from the first on
abbrev pub film_text : Film → List ℕ
film_text film = y4m_of (generated_head film.w film.h) (generated_frames film.start film.frames film.w film.h)

-- at most one output was created, with this name, and it holds a first part of this text
abbrev pub MakesPart : Meaning → Meaning → List ℕ → List ℕ → Type 0
MakesPart old new name text = MakesNone old new name ⊎ ((came : List ℕ) × (rest : List ℕ) × (text ≡ came ++ rest) × Makes old new name came)
