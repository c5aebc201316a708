use Rattle.thr_huff.proofs.ForestLemmas.{forest_at-forest_bits}
use Rattle.thr_huff.proofs.FrontLemmas.{front-forest}
use Rattle.thr_huff.proofs.SoundLemmas.{forest-sound}
use Rattle.thr_huff.proofs.laws.trees_of_a_header.Goals as goal

pub returns-clause-sound : goal.returns-clause-sound
returns-clause-sound c = λ forest bits left e. forest-sound bits (forest, left) e

pub returns-clause-reads_back : goal.returns-clause-reads_back
returns-clause-reads_back c = forest_at-forest_bits

pub returns-clause-front : goal.returns-clause-front
returns-clause-front c = front-forest
