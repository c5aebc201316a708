use Rattle.std.proofs.Common.{◌≡◌, ◌≢◌, ◌<◌, ◌+◌, ◌*◌, ℕ, length}
use Rattle.thr_dct.specs.Line.{entry}
use Rattle.thr_dct.proofs.passes.put_sums.Given as goal

-- the rows so far have their sum in the column, and the other columns stay
abbrev pub invariant-loop-u : goal.invariant-loop-u
invariant-loop-u l = record {
  long : length l.block ≡ 64;
  own : (u : ℕ) → u < l.u → entry l.block (8 * u + l.j) ≡ entry l.sums u;
  others : (u i : ℕ) → i < 8 → i ≢ l.j → entry l.block (8 * u + i) ≡ entry l.fn.block (8 * u + i);
}
