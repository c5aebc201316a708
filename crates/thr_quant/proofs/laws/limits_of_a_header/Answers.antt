use Rattle.thr_quant.proofs.SoundLemmas.{limits_of-sound}
use Rattle.thr_quant.proofs.WholeLemmas.{limits_back}
use Rattle.thr_quant.proofs.FrontLemmas.{front-limits}
use Rattle.thr_quant.proofs.laws.limits_of_a_header.Goals as goal

pub returns-clause-sound : goal.returns-clause-sound
returns-clause-sound c = λ limits bits left e. limits_of-sound bits (limits, left) e

pub returns-clause-reads_back : goal.returns-clause-reads_back
returns-clause-reads_back c = limits_back

pub returns-clause-front : goal.returns-clause-front
returns-clause-front c = front-limits
