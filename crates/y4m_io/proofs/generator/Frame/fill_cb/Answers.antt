use Rattle.std.proofs.Common.{◌%◌, ℕ, length, arith}
use Rattle.std.proofs.lemmas.List.FromFn.{fill_by_all}
use Rattle.y4m_io.specs.Generator.{cb_at}
use Rattle.y4m_io.proofs.generator.Frame.fill_cb.Goals as goal

pub returns : goal.returns
returns c = fill_by_all (λ (i : ℕ). cb_at c.args.self.start c.args.self.n (i % c.args.columns)) c.loop-k.into (length c.args.into.now) 0 c.loop-k.invariant.size (λ i below. c.loop-k.invariant.done i (omega (arith, below)))
