-- Values of the program as those of the definitions, and spans that lie in their sources.
use Rattle.std.specs.Prelude.{◌≡◌, ⊤, ℕ, ◌<◌, ◌≤◌, Bool, List, [], ◌∷◌, length, map, Result, Err}
use Rattle.std.specs.Global.{Vec}
use Rattle.cut_list.specs.Slices.{Slices}
use Rattle.cut_plan.specs.Forced.{Marks, marks_of}
use Rattle.cut_plan.specs.Spans.{Span, span_of}
use Rattle.cut_plan.specs.declared.fault.PlanFault.{PlanFault}
use Rattle.cut_plan.specs.declared.fault.PlanFault.TheVariants.{Range, NoMem}
use Rattle.cut_plan.specs.declared.run.Run.{Run}
use Rattle.cut_plan.specs.declared.span.Span.{Span as SpanStruct}

abbrev pub span_view : SpanStruct → Span
span_view span = record { src = span.src; first = span.first; past = span.past }

-- the marks of the sources
abbrev pub marks_view : List (Vec Bool) → List Marks
marks_view keys = map (λ marks. marks.items) keys

-- a fault is the line that was found, or want of memory
abbrev pub IsOutside : PlanFault → Result (List Run) ℕ → Type 0
IsOutside (Range line) planned = planned ≡ Err line
IsOutside NoMem planned = ⊤

-- a span has a frame, and lies in a source
pub record IsSpan (marks : List Marks) (span : Span) : Type 0 where
  pub ordered : span.first < span.past
  pub source : 1 ≤ span.src
  pub known : span.src ≤ length marks
  pub ends : span.past ≤ length (marks_of marks span.src)

-- so does each slice
abbrev pub AreInside : List Marks → Slices → Type 0
AreInside marks [] = ⊤
AreInside marks (slice ∷ slices) = IsSpan marks (span_of slice) × AreInside marks slices
