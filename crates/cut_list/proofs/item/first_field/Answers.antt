use Rattle.std.proofs.lemmas.List.{take_rest}
use Rattle.cut_list.proofs.LineLemmas.{fields_of-field, fields_of-last}
use Rattle.cut_list.proofs.item.first_field.Goals as goal

pub returns-in-Some : goal.returns-in-Some
returns-in-Some c = rw take_rest (fields_of-field c.args.line.now c.in-Some.end c.in-Some.ensures)

pub returns-in-None : goal.returns-in-None
returns-in-None c = fields_of-last c.args.line.now c.in-None.ensures
