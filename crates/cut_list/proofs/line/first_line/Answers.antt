use Rattle.std.proofs.Common.{refl, ap, ◌∙◌}
use Rattle.std.proofs.lemmas.List.{take_rest}
use Rattle.cut_list.specs.EditList.{lines_of}
use Rattle.cut_list.proofs.LineLemmas.{lines_of-line, lines_of-last}
use Rattle.cut_list.proofs.line.first_line.Goals as goal

pub returns-in-Some-clause-lines : goal.returns-in-Some-clause-lines
returns-in-Some-clause-lines c = rw take_rest (lines_of-line c.args.text.now c.in-Some.end c.in-Some.ensures)

pub returns-in-None-clause-lines : goal.returns-in-None-clause-lines
unfolding lines_of
returns-in-None-clause-lines c = lines_of-last c.args.text.now c.requires c.in-None.ensures
