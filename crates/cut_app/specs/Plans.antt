-- What a plan says, and what it is made of (own).
use Rattle.std.specs.Prelude.{◌≡◌, ℕ, ◌≤◌, true, false, List, [], ◌∷◌, ◌++◌, length, map, Some, Result, Ok}
use Rattle.vid_desk.specs.Meaning.{File}
use Rattle.ogg_link.specs.Track.{is_key}
use Rattle.src_index.specs.Track.{frames_of}
use Rattle.cut_list.specs.Slices.{Slices}
use Rattle.cut_list.specs.EditList.{list_of}
use Rattle.cut_plan.specs.Runs.{frames_coded, frames_copied, plan_of}
use Rattle.cut_plan.specs.declared.run.Run.{Run}
use Rattle.cut_plan.specs.declared.run.Run.TheVariants.{Copy, Code}
use Rattle.cut_desk.specs.Inputs.{contents, longest_list}
use Rattle.cut_report.specs.Lines.{run_text, total_text}
use Rattle.cut_app.specs.Found.{IsFound}

-- the names in the words of a plan
pub record Plan : Type 0 where
  pub list : List ℕ
  pub source : List ℕ

-- the line of a run
abbrev pub line_of_run : Run → List ℕ
line_of_run (Copy src first past) = run_text true src first past
line_of_run (Code src first past) = run_text false src first past

-- the lines of runs
abbrev pub run_lines : List Run → List ℕ
run_lines [] = []
run_lines (run ∷ runs) = line_of_run run ++ run_lines runs

-- the lines of a plan's runs, and how many frames they copy and code
abbrev pub plan_text : List Run → List ℕ
plan_text runs = run_lines runs ++ total_text (frames_copied runs) (frames_coded runs)

-- the runs of slices of the one source that has these packets, or the first line out of range
abbrev pub plan_over : List (List ℕ) → Slices → Result (List Run) ℕ
plan_over packets slices = plan_of (length (frames_of packets) ∷ []) (map is_key (frames_of packets) ∷ []) slices

-- the list is there and not too long, and judging finds these packets in the source
pub record IsRead (files : List File) (plan : Plan) (text : List ℕ) (packets : List (List ℕ)) : Type 0 where
  pub list_is : contents files plan.list ≡ Some text
  pub short : length text ≤ longest_list
  pub found : IsFound files plan.source (Ok packets)

-- the list says slices that have these runs over the source
pub record HasRuns (files : List File) (plan : Plan) (runs : List Run) : Type 0 where
  pub text : List ℕ
  pub packets : List (List ℕ)
  pub slices : Slices
  pub read : IsRead files plan text packets
  pub listed : list_of text ≡ Ok slices
  pub planned : plan_over packets slices ≡ Ok runs

-- the text of a plan that was made: the lines of its runs
abbrev pub IsPlanText : List File → Plan → List ℕ → Type 0
IsPlanText files plan text = (runs : List Run) × HasRuns files plan runs × (text ≡ plan_text runs)
