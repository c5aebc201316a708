-- Numbers in the words of a command line, and what they say (own). Numbers are those of edit lists.
use Rattle.std.specs.Prelude.{ℕ, ◌&&◌, List, Option, Some, None, nat_le, if◌then◌else◌}
use Rattle.std.specs.Option.{option_and_then}
use Rattle.cut_list.specs.Numbers.{number_of}
use Rattle.cut_make.specs.declared.film.Film.{Film}
use Rattle.cut_app.specs.declared.numbers.Coding.{Coding}

-- the number that a word says, where it says one from `least` to `most`
unfoldable pub number_within : ℕ → ℕ → List ℕ → Option ℕ
number_within least most word = option_and_then (λ n. if nat_le least n && nat_le n most then Some n else None) (number_of word)

-- the film of these numbers, where there are all
abbrev pub film_of : Option ℕ → Option ℕ → Option ℕ → Option ℕ → Option Film
film_of (Some start) (Some frames) (Some w) (Some h) = Some (record { start = start; frames = frames; w = w; h = h })
film_of _ _ _ _ = None

-- the film of these words: where it begins, how many pictures it has, and their size
unfoldable pub film_in : List ℕ → List ℕ → List ℕ → List ℕ → Option Film
film_in start frames w h = film_of (number_of start) (number_within 1 10000 frames) (number_within 1 1024 w) (number_within 1 1024 h)

-- how these numbers say to code, where there are both
abbrev pub coding_of : Option ℕ → Option ℕ → Option Coding
coding_of (Some qi) (Some keys) = Some (record { qi = qi; keys = keys })
coding_of _ _ = None

-- how these words say to code: the quantiser index, and the frames from one key frame to the next
unfoldable pub coding_in : List ℕ → List ℕ → Option Coding
coding_in qi keys = coding_of (number_within 0 63 qi) (number_within 1 64 keys)
