-- A reader that keeps nothing of what it reads (own).
use Rattle.std.specs.Prelude.{◌≡◌, ⊤, Bool, List, Result, Ok, Err}

-- its answer and the bits that it leaves are those of a definition, whatever value that has
abbrev pub Passes : {Y F : Type 0} → Result ⊤ F → List Bool → Result (Y × List Bool) F → Type 0
Passes {Y} (Ok _) left read = (value : Y) × (read ≡ Ok (value, left))
Passes (Err fault) left read = read ≡ Err fault
