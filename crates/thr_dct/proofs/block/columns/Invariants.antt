use Rattle.std.proofs.Common.{◌≡◌, ◌<◌, ◌+◌, ◌*◌, ℕ, length}
use Rattle.thr_dct.specs.Line.{entry, line}
use Rattle.thr_dct.specs.Inverse.{column}
use Rattle.thr_dct.proofs.block.columns.Given as goal

-- the columns so far went through the transform of one line
abbrev pub invariant-loop-j : goal.invariant-loop-j
invariant-loop-j l = record {
  long : length l.out ≡ 64;
  done : (k j : ℕ) → k < 8 → j < l.j → entry l.out (8 * k + j) ≡ entry (line (column l.block j)) k;
}
