use Rattle.std.proofs.Common.{◌≡◌, ◌≢◌, ◌<◌, ◌+◌, ◌*◌, ℕ, length}
use Rattle.thr_dct.specs.Line.{entry}
use Rattle.thr_dct.specs.Inverse.{settled}
use Rattle.thr_dct.proofs.block.put_settled.Given as goal

-- the rows so far have their number in the column, and the other columns stay
abbrev pub invariant-loop-r : goal.invariant-loop-r
invariant-loop-r l = record {
  long : length l.block ≡ 64;
  own : (r : ℕ) → r < l.r → entry l.block (8 * r + l.j) ≡ settled (entry l.column r);
  others : (r i : ℕ) → i < 8 → i ≢ l.j → entry l.block (8 * r + i) ≡ entry l.fn.block (8 * r + i);
}
