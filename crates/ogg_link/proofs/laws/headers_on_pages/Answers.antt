use Rattle.ogg_link.proofs.ProgressLemmas.{not_crowded, not_crowded-more, packet_alone, packet_fits, packet_counted}
use Rattle.ogg_link.proofs.laws.headers_on_pages.Goals as goal

pub returns-clause-behind : goal.returns-clause-behind
returns-clause-behind c = not_crowded

pub returns-clause-one_more : goal.returns-clause-one_more
returns-clause-one_more c = not_crowded-more

pub returns-clause-alone : goal.returns-clause-alone
returns-clause-alone c = packet_alone

pub returns-clause-fits : goal.returns-clause-fits
returns-clause-fits c = packet_fits

pub returns-clause-counted : goal.returns-clause-counted
returns-clause-counted c = packet_counted
