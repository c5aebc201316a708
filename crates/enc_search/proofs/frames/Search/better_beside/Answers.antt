use Rattle.enc_search.proofs.AllowedLemmas.{new_allowed}
use Rattle.enc_search.proofs.frames.Search.better_beside.Goals as goal

pub returns-in-Some-clause-allowed : goal.returns-in-Some-clause-allowed
returns-in-Some-clause-allowed c = λ memory h. c.better.ensures.allowed memory h (new_allowed memory c.in-Some.beside)
