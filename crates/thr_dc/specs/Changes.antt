-- What the code's `Change` stands for (own).
use Rattle.std.specs.Prelude.{ℕ, ℤ, List, Option}
use Rattle.thr_dc.specs.declared.change.Change.{Change}
use Rattle.thr_dc.specs.declared.change.Change.TheVariants.{Undo, Apply, Limit}
use Rattle.thr_dc.specs.Blocks.{Coded}
use Rattle.thr_dc.specs.Prediction.{raised, lowered, nearest, undone, applied, limited}

-- what becomes of a value with its predictor
abbrev pub value_by : Change → ℤ → ℤ → ℤ
value_by Undo = raised
value_by Apply = lowered
value_by Limit = nearest

-- what becomes of a plane
abbrev pub plane_by : Change → ℕ → List (Option Coded) → List (Option Coded)
plane_by Undo = undone
plane_by Apply = applied
plane_by Limit = limited
