use Rattle.y4m_io.proofs.TextLemmas.{y4m_of-none, y4m_of-more}
use Rattle.y4m_io.proofs.laws.texts_by_pictures.Goals as goal

pub returns-clause-none : goal.returns-clause-none
returns-clause-none c = y4m_of-none

pub returns-clause-more : goal.returns-clause-more
returns-clause-more c = y4m_of-more
