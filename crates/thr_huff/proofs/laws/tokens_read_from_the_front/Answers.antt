use Rattle.thr_huff.proofs.FrontLemmas.{front-token, front_token-more, front_token-cut}
use Rattle.thr_huff.proofs.laws.tokens_read_from_the_front.Goals as goal

pub returns-clause-front : goal.returns-clause-front
returns-clause-front c = front-token

pub returns-clause-more : goal.returns-clause-more
returns-clause-more c = front_token-more

pub returns-clause-cut : goal.returns-clause-cut
returns-clause-cut c = front_token-cut
