use Rattle.thr_setup.proofs.SetupLemmas.{front-fields, import-sound, setup_back, setup-sound}
use Rattle.thr_setup.proofs.laws.setups_of_a_header.Goals as goal

pub returns-clause-sound : goal.returns-clause-sound
returns-clause-sound c = λ setup bytes e. setup-sound bytes setup e

pub returns-clause-own : goal.returns-clause-own
returns-clause-own c = import-sound

pub returns-clause-reads_back : goal.returns-clause-reads_back
returns-clause-reads_back c = setup_back

pub returns-clause-front : goal.returns-clause-front
returns-clause-front c = front-fields
