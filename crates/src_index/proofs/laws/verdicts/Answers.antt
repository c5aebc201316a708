use Rattle.src_index.proofs.VerdictLemmas.{one_verdict}
use Rattle.src_index.proofs.laws.verdicts.Goals as goal

pub returns : goal.returns
returns c = one_verdict
