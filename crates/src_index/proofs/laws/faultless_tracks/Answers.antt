use Rattle.std.proofs.Common.{is_ok, ap}
use Rattle.src_index.proofs.FaultlessLemmas.{judged_faultless, headed, faultless_spaced, faultless_say, faultless_decode, quantisers_small}
use Rattle.src_index.proofs.laws.faultless_tracks.Goals as goal

pub returns-clause-faultless : goal.returns-clause-faultless
returns-clause-faultless c = judged_faultless

pub returns-clause-headers : goal.returns-clause-headers
returns-clause-headers c = λ packets some h. let known = headed packets some h in (ap is_ok known.ident, known.comment, ap is_ok known.setup)

pub returns-clause-spaced : goal.returns-clause-spaced
returns-clause-spaced c = faultless_spaced

pub returns-clause-quantisers : goal.returns-clause-quantisers
returns-clause-quantisers c = quantisers_small

pub returns-clause-frames : goal.returns-clause-frames
returns-clause-frames c = faultless_say

pub returns-clause-decodes : goal.returns-clause-decodes
returns-clause-decodes c = faultless_decode
