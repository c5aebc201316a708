-- (private) What a packet is made from, as the code holds it (own).
use Rattle.thr_frame.specs.Rebuilt.{Pair}
use Rattle.enc_frame.specs.declared.sources.Sources.{Sources}

-- the frames that are predicted from
abbrev pub refs_of : Sources → Pair
refs_of from = record { prev = from.prev.now; golden = from.golden.now }
