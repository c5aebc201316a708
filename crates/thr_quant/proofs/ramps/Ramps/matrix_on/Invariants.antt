use Rattle.std.proofs.Common.{◌≡◌, ◌<◌, ℕ, length, get_or}
use Rattle.thr_quant.specs.Matrix.{entry_on, seen}
use Rattle.thr_quant.proofs.ramps.Ramps.matrix_on.Given as goal

-- the entries so far are those of the matrix
abbrev pub invariant-loop-k : goal.invariant-loop-k
invariant-loop-k l = record {
  long : length l.entry-items ≡ 64;
  entries : (k : ℕ) → k < l.k → get_or l.entry-items k 0 ≡ entry_on l.self l.qti l.qi (seen l.stretch) k;
}
