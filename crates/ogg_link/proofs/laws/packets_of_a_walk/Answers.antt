use Rattle.ogg_link.proofs.StepLemmas.{start_holds, progress_behind, walk_holds}
use Rattle.ogg_link.proofs.EndLemmas.{settled_keeps, three_ended}
use Rattle.ogg_link.proofs.laws.packets_of_a_walk.Goals as goal

pub returns-clause-start : goal.returns-clause-start
returns-clause-start c = start_holds

pub returns-clause-known : goal.returns-clause-known
returns-clause-known c = progress_behind

pub returns-clause-holds : goal.returns-clause-holds
returns-clause-holds c = walk_holds

pub returns-clause-settled : goal.returns-clause-settled
returns-clause-settled c = settled_keeps

pub returns-clause-ended : goal.returns-clause-ended
returns-clause-ended c = three_ended
