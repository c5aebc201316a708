-- The runs of a list (own): for each joined slice a Code run of its forced frames and a Copy run of the others, without empty
-- runs.
use Rattle.std.specs.Prelude.{ℕ, ◌+◌, ◌-◌, true, false, List, [], ◌∷◌, ◌++◌, map, Option, Some, None, Result, Ok, Err, ◌==◌, nat_lt, slice_range, if◌then◌else◌}
use Rattle.std.specs.List.{position_or_len, range_with_len}
use Rattle.cut_list.specs.Slices.{Slices}
use Rattle.cut_plan.specs.Forced.{Marks, Planned, marks_of}
use Rattle.cut_plan.specs.Range.{first_outside}
use Rattle.cut_plan.specs.Spans.{Span, Spans, joined}
use Rattle.cut_plan.specs.declared.run.Run.{Run}
use Rattle.cut_plan.specs.declared.run.Run.TheVariants.{Copy, Code}

-- the first key frame of a joined slice, or its end
abbrev pub first_key : Marks → Span → ℕ
first_key marks span = span.first + position_or_len (λ key. key) (slice_range marks span.first span.past)

abbrev pub code_run : ℕ → ℕ → ℕ → List Run
code_run src first past = if nat_lt first past then Code src first past ∷ [] else []

abbrev pub copy_run : ℕ → ℕ → ℕ → List Run
copy_run src first past = if nat_lt first past then Copy src first past ∷ [] else []

-- the runs of a joined slice
unfoldable pub runs_of : Marks → Span → List Run
runs_of marks span = code_run span.src span.first (first_key marks span) ++ copy_run span.src (first_key marks span) span.past

-- the runs of all joined slices
abbrev pub all_runs : List Marks → Spans → List Run
all_runs marks [] = []
all_runs marks (span ∷ spans) = runs_of (marks_of marks span.src) span ++ all_runs marks spans

-- the line that was found, or else the runs
abbrev pub or_line : Option ℕ → List Run → Result (List Run) ℕ
or_line (Some line) runs = Err line
or_line None runs = Ok runs

-- the runs of a list, or its first line out of range
unfoldable pub plan_of : List ℕ → List Marks → Slices → Result (List Run) ℕ
plan_of counts marks slices = or_line (first_outside counts 0 slices) (all_runs marks (joined slices))

-- the frames of a run, one by one: those of a Code run are coded, the first as a key frame
unfoldable pub planned_by : Run → List Planned
planned_by (Code src first past) = map (λ n. record { src = src; n = n; coded = true; key = n == first }) (range_with_len first (past - first))
planned_by (Copy src first past) = map (λ n. record { src = src; n = n; coded = false; key = false }) (range_with_len first (past - first))

-- the frames of runs
abbrev pub planned_by_runs : List Run → List Planned
planned_by_runs [] = []
planned_by_runs (run ∷ runs) = planned_by run ++ planned_by_runs runs

-- how many frames runs copy, and how many they code
abbrev pub copied_by : Run → ℕ
copied_by (Copy src first past) = past - first
copied_by (Code src first past) = 0

abbrev pub coded_by : Run → ℕ
coded_by (Copy src first past) = 0
coded_by (Code src first past) = past - first

abbrev pub frames_copied : List Run → ℕ
frames_copied [] = 0
frames_copied (run ∷ runs) = copied_by run + frames_copied runs

abbrev pub frames_coded : List Run → ℕ
frames_coded [] = 0
frames_coded (run ∷ runs) = coded_by run + frames_coded runs
