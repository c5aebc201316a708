use Rattle.thr_frame.proofs.FramesLemmas.{frames_count, frame_at, frames_begin, frames_join}
use Rattle.thr_frame.proofs.laws.frames_follow_one_another.Goals as goal

pub returns : goal.returns
returns c = record { count = frames_count; at = frame_at; begin = frames_begin; join = frames_join }
