use Rattle.ogg_link.proofs.StepLemmas.{first_step_right, step_right, parts_by_flag}
use Rattle.ogg_link.proofs.GranuleLemmas.{settled_right}
use Rattle.ogg_link.proofs.laws.pages_without_a_fault.Goals as goal

pub returns-clause-first : goal.returns-clause-first
returns-clause-first c = first_step_right

pub returns-clause-later : goal.returns-clause-later
returns-clause-later c = step_right

pub returns-clause-flag : goal.returns-clause-flag
returns-clause-flag c = parts_by_flag

pub returns-clause-position : goal.returns-clause-position
returns-clause-position c = settled_right
