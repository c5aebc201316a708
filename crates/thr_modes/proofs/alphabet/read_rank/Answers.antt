use Rattle.std.proofs.Common.{◌∙◌, sym}
use Rattle.thr_modes.proofs.RankLemmas.{rank_zero}
use Rattle.thr_modes.proofs.alphabet.read_rank.Goals as goal

pub returns-then-not-branch-clause-value : goal.returns-then-not-branch-clause-value
returns-then-not-branch-clause-value c =
    sym c.bits.invariant.read ∙ rank_zero c.bits.rank c.bits.r.left c.bit.new.self.left c.bits-test.true (rw c.if-not-branch.true at c.in_ok-bit.ensures.value)
