use Rattle.cut_list.proofs.ListedLemmas.{list_of-listed}
use Rattle.cut_list.proofs.laws.lists_of_a_text.Goals as goal

pub returns-clause-some : goal.returns-clause-some
returns-clause-some c text slices e = (list_of-listed text slices e).0

pub returns-clause-listed : goal.returns-clause-listed
returns-clause-listed c text slices e = (list_of-listed text slices e).1
