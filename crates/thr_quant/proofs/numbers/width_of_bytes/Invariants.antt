use Rattle.std.proofs.Common.{◌≡◌, ◌<◌, ◌≤◌, ℕ, fold, max, take, get_or}
use Rattle.thr_quant.proofs.numbers.width_of_bytes.Given as goal

-- the greatest number so far
abbrev pub invariant-loop-number : goal.invariant-loop-number
invariant-loop-number l = record {
  greatest : l.greatest ≡ fold max 0 (take l.number-index l.numbers);
  bound : (k : ℕ) → k < l.number-index → get_or l.numbers k 0 ≤ l.greatest;
}
