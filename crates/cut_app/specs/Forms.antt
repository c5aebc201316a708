-- The words of a command line and the forms that they can have (own).
use Rattle.std.specs.Prelude.{ℕ, List, [], ◌∷◌, Option, Some, None, codes, if◌then◌else◌}
use Rattle.std.specs.Option.{option_map}
use Rattle.std.specs.Str.{bytes_eq}
use Rattle.cut_slice.specs.Words.{Cut}
use Rattle.cut_app.specs.Plans.{Plan}
use Rattle.cut_app.specs.Exports.{Export}
use Rattle.cut_app.specs.Imports.{Import}
use Rattle.cut_app.specs.Makes.{Make}
use Rattle.cut_app.specs.Numbers.{coding_in, film_in}

-- `check FILE`, `export FILE OUT`, `import Y4M OUT QI KEYS`, `make START FRAMES W H OUT`, `plan LIST SRC` and
-- `cut LIST OUT SRC`, by what is in them
pub data Form : Type 0 where
  Checking : List ℕ → Form
  Exporting : Export → Form
  Importing : Import → Form
  Making : Make → Form
  Planning : Plan → Form
  Cutting : Cut → Form

-- the form of a command with two names
unfoldable pub form_of_two : List ℕ → List ℕ → List ℕ → Option Form
form_of_two command one other =
    if bytes_eq command (codes "plan") then Some (Planning (record { list = one; source = other }))
    else if bytes_eq command (codes "export") then Some (Exporting (record { file = one; out = other })) else None

-- the form of a command with two names and two numbers
unfoldable pub form_of_import : List ℕ → List ℕ → List ℕ → List ℕ → List ℕ → Option Form
form_of_import command y4m out qi keys =
    if bytes_eq command (codes "import") then option_map (λ coding. Importing (record { y4m = y4m; out = out; coding = coding })) (coding_in qi keys) else None

-- the form of a command with four numbers and a name
unfoldable pub form_of_film : List ℕ → List ℕ → List ℕ → List ℕ → List ℕ → List ℕ → Option Form
form_of_film command start frames w h out = if bytes_eq command (codes "make") then option_map (λ film. Making (record { film = film; out = out })) (film_in start frames w h) else None

-- the form of these words, if they have one
abbrev pub form_of : List (List ℕ) → Option Form
form_of (command ∷ file ∷ []) = if bytes_eq command (codes "check") then Some (Checking file) else None
form_of (command ∷ one ∷ other ∷ []) = form_of_two command one other
form_of (command ∷ list ∷ out ∷ source ∷ []) = if bytes_eq command (codes "cut") then Some (Cutting (record { list = list; out = out; source = source })) else None
form_of (command ∷ y4m ∷ out ∷ qi ∷ keys ∷ []) = form_of_import command y4m out qi keys
form_of (command ∷ start ∷ frames ∷ w ∷ h ∷ out ∷ []) = form_of_film command start frames w h out
form_of _ = None

-- the names of a command's inputs, in the order of the words
abbrev pub inputs_in : Form → List (List ℕ)
inputs_in (Checking file) = file ∷ []
inputs_in (Exporting export) = export.file ∷ []
inputs_in (Importing import) = import.y4m ∷ []
inputs_in (Making make) = []
inputs_in (Planning plan) = plan.list ∷ plan.source ∷ []
inputs_in (Cutting cut) = cut.list ∷ cut.source ∷ []

-- the same of words, which may have no form
abbrev pub inputs_of : Option Form → List (List ℕ)
inputs_of None = []
inputs_of (Some form) = inputs_in form
