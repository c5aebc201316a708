use Rattle.cut_plan.proofs.LawLemmas.{plan-planned, plan-short, plan-sound}
use Rattle.cut_plan.proofs.CountLemmas.{plan-few}
use Rattle.cut_plan.proofs.FrameLemmas.{joined-frames}
use Rattle.cut_plan.proofs.laws.plans_of_a_list.Goals as goal

pub returns-clause-planned : goal.returns-clause-planned
returns-clause-planned c marks slices runs plan = plan-planned marks slices runs plan

pub returns-clause-sound : goal.returns-clause-sound
returns-clause-sound c marks slices runs plan = plan-sound marks slices runs plan

pub returns-clause-short : goal.returns-clause-short
returns-clause-short c marks slices runs reach plan near = plan-short marks slices runs reach plan near

pub returns-clause-few : goal.returns-clause-few
returns-clause-few c marks slices runs plan = plan-few marks slices runs plan

pub returns-clause-joined : goal.returns-clause-joined
returns-clause-joined c slices = joined-frames slices
