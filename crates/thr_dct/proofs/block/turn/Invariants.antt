use Rattle.std.proofs.Common.{◌≡◌, ◌<◌, ◌+◌, ◌*◌, ℕ, length}
use Rattle.thr_dct.specs.Line.{entry}
use Rattle.thr_dct.specs.Inverse.{row}
use Rattle.thr_dct.proofs.block.turn.Given as goal

-- the rows so far are columns
abbrev pub invariant-loop-j : goal.invariant-loop-j
invariant-loop-j l = record {
  long : length l.out ≡ 64;
  done : (k j : ℕ) → k < 8 → j < l.j → entry l.out (8 * k + j) ≡ entry (row l.block j) k;
}
