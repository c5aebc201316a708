use Rattle.thr_frame.proofs.IntraLemmas.{key_step}
use Rattle.thr_frame.proofs.laws.key_packets_begin_anew.Goals as goal

pub returns : goal.returns
returns c = record { key = key_step }
