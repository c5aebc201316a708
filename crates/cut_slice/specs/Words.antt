-- The names in the words of `cut LIST OUT SRC` (own).
use Rattle.std.specs.Prelude.{ℕ, Bool, List, ◌||◌}
use Rattle.std.specs.Str.{bytes_eq}

-- the names of the edit list, of the output and of the source
pub record Cut : Type 0 where
  pub list : List ℕ
  pub out : List ℕ
  pub source : List ℕ

-- the output has the name of an input
abbrev pub clashes : Cut → Bool
clashes cut = bytes_eq cut.out cut.list || bytes_eq cut.out cut.source
