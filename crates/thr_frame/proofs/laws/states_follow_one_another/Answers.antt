use Rattle.thr_frame.proofs.FramesLemmas.{state_join, state_take, frames_ok}
use Rattle.thr_frame.proofs.laws.states_follow_one_another.Goals as goal

pub returns : goal.returns
returns c = record { join = state_join; take = state_take; frames = frames_ok }
