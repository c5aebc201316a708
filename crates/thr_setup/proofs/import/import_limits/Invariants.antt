use Rattle.std.proofs.Common.{◌≡◌, ◌-◌, ◌/◌, ◌<◌, ℕ, length, get_or}
use Rattle.thr_setup.proofs.import.import_limits.Given as goal

-- the numbers so far
abbrev pub invariant-loop-qi : goal.invariant-loop-qi
invariant-loop-qi l = record {
  long : length l.limit-items ≡ 64;
  values : (k : ℕ) → k < l.qi → get_or l.limit-items k 0 ≡ (63 - k) / 3;
}
