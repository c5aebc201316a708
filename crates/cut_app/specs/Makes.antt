-- What making a film does (own).
use Rattle.std.specs.Prelude.{◌≡◌, ℕ, List, length, Option, ◌⊎◌}
use Rattle.vid_desk.specs.Meaning.{File, with_last}
use Rattle.cut_report.specs.Lines.{made_text}
use Rattle.cut_report.specs.declared.status.Status.{Status}
use Rattle.cut_report.specs.declared.status.Status.TheVariants.{Done}
use Rattle.cut_make.specs.declared.film.Film.{Film}
use Rattle.cut_make.specs.Films.{film_text}
use Rattle.cut_make.specs.Statuses.{IsWriting}

-- the film and the name in the words of `make`
pub record Make : Type 0 where
  pub film : Film
  pub out : List ℕ

-- the text of a film that was made: how many pictures it has, and how many bytes. Among the outputs, where these are told, one
-- more stands after it, which holds the pictures
pub record IsMakeText (make : Make) (before after : Option (List File)) (text : List ℕ) : Type 0 where
  pub output : after ≡ with_last before (record { name = make.out; bytes = film_text make.film })
  pub text_is : text ≡ made_text make.film.frames (length (film_text make.film))

-- the statuses of making a film: its words give all that it needs, so none has a cause but in the desk and in memory
abbrev pub MakeCaused : Status → Type 0
MakeCaused status = (status ≡ Done) ⊎ IsWriting status
