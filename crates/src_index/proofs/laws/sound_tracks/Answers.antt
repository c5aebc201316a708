use Rattle.src_index.proofs.SoundLemmas.{sound_track}
use Rattle.src_index.proofs.laws.sound_tracks.Goals as goal

pub returns : goal.returns
returns c = sound_track
