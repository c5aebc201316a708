use Rattle.thr_frame.proofs.FramesLemmas.{same_fault}
use Rattle.thr_frame.proofs.laws.faults_do_not_depend_on_frames.Goals as goal

pub returns : goal.returns
returns c = record { fault = same_fault }
