use Rattle.std.proofs.Common.{◌≡◌, ◌+◌, ◌++◌, drop}
use Rattle.cut_plan.specs.Runs.{frames_coded, frames_copied}
use Rattle.cut_app.specs.Plans.{run_lines}
use Rattle.cut_app.proofs.runs.text_of.Given as goal

-- the lines and the frames so far, and those of the runs that are left, are all
abbrev pub invariant-runs : goal.invariant-runs
invariant-runs l = record {
  lines : l.text.items ++ run_lines (drop l.run-index l.runs) ≡ run_lines l.runs;
  copies : l.copied + frames_copied (drop l.run-index l.runs) ≡ frames_copied l.runs;
  codes : l.coded + frames_coded (drop l.run-index l.runs) ≡ frames_coded l.runs;
}
