use Rattle.y4m_io.proofs.ReadingLemmas.{started_is, one_stream, no_stream}
use Rattle.y4m_io.proofs.laws.streams_of_a_text.Goals as goal

pub returns-clause-started : goal.returns-clause-started
returns-clause-started c = started_is

pub returns-clause-one : goal.returns-clause-one
returns-clause-one c = one_stream

pub returns-clause-none : goal.returns-clause-none
returns-clause-none c = no_stream
