use Rattle.std.proofs.Common.{◌≡◌, ◌+◌, ◌-◌, ◌*◌, ◌<◌, ℕ, length, get_or}
use Rattle.thr_setup.proofs.import.even_scales.Given as goal

-- the numbers so far
abbrev pub invariant-loop-qi : goal.invariant-loop-qi
invariant-loop-qi l = record {
  long : length l.scale-items ≡ 64;
  values : (k : ℕ) → k < l.qi → get_or l.scale-items k 0 ≡ 10 + l.step * (63 - k);
}
