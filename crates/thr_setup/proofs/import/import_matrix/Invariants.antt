use Rattle.std.proofs.Common.{◌≡◌, ◌+◌, ◌*◌, ◌/◌, ◌%◌, ◌<◌, ℕ, length, get_or}
use Rattle.thr_setup.proofs.import.import_matrix.Given as goal

-- the numbers so far
abbrev pub invariant-loop-k : goal.invariant-loop-k
invariant-loop-k l = record {
  long : length l.value-items ≡ 64;
  values : (k : ℕ) → k < l.k → get_or l.value-items k 0 ≡ 16 + 4 * (k / 8 + k % 8);
}
