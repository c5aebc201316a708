-- What values of the code say (own).
use Rattle.std.specs.Prelude.{ℕ}
use Rattle.thr_modes.specs.Vectors.{Offset, offset_of}
use Rattle.thr_modes.specs.Motion.{Memory}
use Rattle.thr_frame.specs.Rebuilt.{Pair}
use Rattle.enc_search.specs.declared.memory.Remembered.{Remembered}
use Rattle.enc_search.specs.declared.frames.Frames.{Frames}
use Rattle.enc_search.specs.declared.frames.Search.{Search}
use Rattle.enc_search.specs.Searched.{luma_distance}
use Rattle.enc_search.specs.Found.{luma_samples}

-- the frames that are predicted from
abbrev pub refs_of : Frames → Pair
refs_of f = record { prev = f.prev.now; golden = f.golden.now }

-- what is remembered
unfoldable pub memory_of : Remembered → Memory
memory_of r = record { last1 = offset_of r.last1; last2 = offset_of r.last2 }

-- how far the luma blocks of a search are from those that a mode predicts by a vector
abbrev pub distance_by : Search → ℕ → Offset → ℕ
distance_by s mode v = luma_distance s.frames.target.now (luma_samples (refs_of s.frames) mode v) s.blocks
