use Rattle.std.proofs.Common.{◌≡◌, ◌≤◌, ◌-◌, ◌^◌, ◌<◌, length, take}
use Rattle.vid_base.specs.Reading.{SameEnd}
use Rattle.vid_base.specs.Items.{with_front}
use Rattle.thr_flags.specs.RunStrings.{values}
use Rattle.thr_flags.specs.Views.{run_form}
use Rattle.thr_flags.proofs.reading.read_runs.Given as goal

-- what is read so far, and the rest, are the whole string
abbrev pub invariant-runs : goal.invariant-runs
invariant-runs l = record {
  same : with_front (take l.at l.into) (values (run_form l.code) (length l.into - l.at) l.run l.run l.value l.r.left) ≡ values (run_form l.code) (length l.fn.into) l.first_run l.first_run l.first l.fn.r.left;
  same_len : length l.into ≡ length l.fn.into;
  within : l.at ≤ length l.into;
  small : l.run < 2 ^ 16;
  some : 0 < l.run;
  end : SameEnd l.fn.r l.r;
}

abbrev pub decreases-runs : goal.decreases-runs
decreases-runs l = length l.into - l.at
