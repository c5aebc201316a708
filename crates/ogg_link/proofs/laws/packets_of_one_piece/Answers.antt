use Rattle.ogg_link.proofs.EndLemmas.{piece_ends, piece_holds}
use Rattle.ogg_link.proofs.laws.packets_of_one_piece.Goals as goal

pub returns-clause-ends : goal.returns-clause-ends
returns-clause-ends c = piece_ends

pub returns-clause-holds : goal.returns-clause-holds
returns-clause-holds c = piece_holds
