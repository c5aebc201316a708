use Rattle.vid_base.proofs.FrontLemmas.{cut-front, front-bit, front-field, front-items, front-then}
use Rattle.vid_base.proofs.fronts.fields_read_from_the_front.Goals as goal

pub returns-clause-field : goal.returns-clause-field
returns-clause-field c = front-field

pub returns-clause-bit : goal.returns-clause-bit
returns-clause-bit c = front-bit

pub returns-clause-chain : goal.returns-clause-chain
returns-clause-chain c = front-then

pub returns-clause-row : goal.returns-clause-row
returns-clause-row c = front-items

pub returns-clause-cut : goal.returns-clause-cut
returns-clause-cut c = cut-front
