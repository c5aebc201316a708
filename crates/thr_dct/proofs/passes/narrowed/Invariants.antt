use Rattle.std.proofs.Common.{◌≡◌, ◌<◌, ℕ, length}
use Rattle.thr_dct.specs.Line.{entry}
use Rattle.thr_dct.proofs.passes.narrowed.Given as goal

-- the numbers so far are copied
abbrev pub invariant-loop-k : goal.invariant-loop-k
invariant-loop-k l = record {
  long : length l.out ≡ 64;
  copied : (i : ℕ) → i < l.k → entry l.out i ≡ entry l.block i;
}
