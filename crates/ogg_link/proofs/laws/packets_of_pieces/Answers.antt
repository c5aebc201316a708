use Rattle.ogg_link.proofs.ProgressLemmas.{packets_counted}
use Rattle.ogg_link.proofs.KeyLemmas.{last_key_of_page, unfinished_by_last, holds_on}
use Rattle.ogg_link.proofs.laws.packets_of_pieces.Goals as goal

pub returns-clause-counted : goal.returns-clause-counted
returns-clause-counted c = packets_counted

pub returns-clause-last_key : goal.returns-clause-last_key
returns-clause-last_key c = last_key_of_page

pub returns-clause-unfinished : goal.returns-clause-unfinished
returns-clause-unfinished c = unfinished_by_last

pub returns-clause-holds : goal.returns-clause-holds
returns-clause-holds c = holds_on
