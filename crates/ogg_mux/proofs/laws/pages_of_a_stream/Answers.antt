use Rattle.ogg_mux.proofs.StreamLemmas.{ArePages-paged, packets_of-paged_list}
use Rattle.ogg_mux.proofs.LawLemmas.{stream_goes}
use Rattle.ogg_mux.proofs.laws.pages_of_a_stream.Goals as goal

pub returns-clause-pages : goal.returns-clause-pages
returns-clause-pages c = ArePages-paged

pub returns-clause-packets : goal.returns-clause-packets
returns-clause-packets c = packets_of-paged_list

pub returns-clause-walked : goal.returns-clause-walked
returns-clause-walked c = stream_goes
