use Rattle.std.proofs.Common.{◌≡◌, ◌<◌, ◌+◌, ◌*◌, ℕ, length}
use Rattle.thr_dct.specs.Line.{entry}
use Rattle.thr_dct.specs.Passes.{sums}
use Rattle.thr_dct.proofs.passes.pass.Given as goal

-- the columns so far are the sums of rows
abbrev pub invariant-loop-r : goal.invariant-loop-r
invariant-loop-r l = record {
  long : length l.out ≡ 64;
  done : (u j : ℕ) → u < 8 → j < l.r → entry l.out (8 * u + j) ≡ entry (sums (λ x. entry l.block (8 * j + x))) u;
}
