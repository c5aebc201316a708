use Rattle.src_index.proofs.WrittenLemmas.{pages_judged, stream_judged}
use Rattle.src_index.proofs.laws.written_pages.Goals as goal

pub returns-clause-pages : goal.returns-clause-pages
returns-clause-pages c = pages_judged

pub returns-clause-stream : goal.returns-clause-stream
returns-clause-stream c = stream_judged
