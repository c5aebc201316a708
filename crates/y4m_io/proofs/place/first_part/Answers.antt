use Rattle.std.proofs.Common.{sym}
use Rattle.std.proofs.lemmas.List.{take_rest}
use Rattle.y4m_io.proofs.PlaceLemmas.{first_of_parts, parts_none}
use Rattle.y4m_io.proofs.place.first_part.Goals as goal

pub returns-in-Some-clause-parts : goal.returns-in-Some-clause-parts
returns-in-Some-clause-parts c = rw take_rest (first_of_parts c.args.separator c.in-Some.end c.args.text.now c.in-Some.ensures.value)

pub returns-in-None-clause-parts : goal.returns-in-None-clause-parts
returns-in-None-clause-parts c = parts_none c.args.separator 0 c.args.text.now (sym c.in-None.ensures.value)
