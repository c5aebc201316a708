use Rattle.std.proofs.Common.{◌≡◌, ◌<◌, ◌%◌, ℕ, get_or, length}
use Rattle.y4m_io.specs.Generator.{cb_at}
use Rattle.y4m_io.proofs.generator.Frame.fill_cb.Given as goal

-- the samples so far
abbrev pub invariant-loop-k : goal.invariant-loop-k
invariant-loop-k l = record {
  size : length l.into ≡ length l.fn.into;
  done : (i : ℕ) → i < l.k → get_or l.into i 0 ≡ cb_at l.self.start l.self.n (i % l.columns);
}
