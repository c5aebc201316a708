use Rattle.thr_huff.proofs.RowLemmas.{full_in, least_in, none_in}
use Rattle.thr_huff.proofs.forest.Forest.full_row.Goals as goal

pub returns-clause-full : goal.returns-clause-full
returns-clause-full c = full_in c.args.self.now c.first_full.result c.first_full.ensures

pub returns-clause-least : goal.returns-clause-least
returns-clause-least c = least_in c.args.self.now c.first_full.result c.first_full.ensures

pub returns-clause-none : goal.returns-clause-none
returns-clause-none c = none_in c.args.self.now c.first_full.result c.first_full.ensures
