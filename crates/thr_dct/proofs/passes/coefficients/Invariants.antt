use Rattle.std.proofs.Common.{◌≡◌, ◌<◌, ℕ, length}
use Rattle.thr_dct.specs.Line.{entry}
use Rattle.thr_dct.specs.Forward.{scaled_down}
use Rattle.thr_dct.proofs.passes.coefficients.Given as goal

-- the sums so far are scaled down
abbrev pub invariant-loop-k : goal.invariant-loop-k
invariant-loop-k l = record {
  long : length l.out ≡ 64;
  scaled : (i : ℕ) → i < l.k → entry l.out i ≡ scaled_down (entry l.sums i);
}
