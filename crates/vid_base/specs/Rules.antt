-- Rules that something keeps, in the order in which their faults are looked for (own).
use Rattle.std.specs.Prelude.{Bool, List, [], ◌∷◌, Option, Some, None, Result, Ok, Err, if◌then◌else◌}

-- whether a rule is kept, and the fault where it is not
abbrev pub Rule : Type 0 → Type 0
Rule F = Bool × F

-- the fault of the first rule that is not kept
unfoldable pub first_fault : {F : Type 0} → List (Rule F) → Option F
first_fault [] = None
first_fault (rule ∷ rules) = if rule.0 then first_fault rules else Some rule.1

-- the value, or the fault where there is one
abbrev pub unless : {A F : Type 0} → Option F → A → Result A F
unless None value = Ok value
unless (Some fault) value = Err fault
