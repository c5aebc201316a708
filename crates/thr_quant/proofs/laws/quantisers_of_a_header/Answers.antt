use Rattle.thr_quant.proofs.SoundRangesLemmas.{ramps_of-sound}
use Rattle.thr_quant.proofs.WholeLemmas.{ramps_back}
use Rattle.thr_quant.proofs.FrontLemmas.{front-ramps}
use Rattle.thr_quant.proofs.laws.quantisers_of_a_header.Goals as goal

pub returns-clause-sound : goal.returns-clause-sound
returns-clause-sound c = λ ramps bits left e. ramps_of-sound bits (ramps, left) e

pub returns-clause-reads_back : goal.returns-clause-reads_back
returns-clause-reads_back c = ramps_back

pub returns-clause-front : goal.returns-clause-front
returns-clause-front c = front-ramps
