use Rattle.std.proofs.Common.{arith}
use Rattle.thr_dc.proofs.PlaneLemmas.{along_next_row, along_right}
use Rattle.thr_dc.proofs.plane.Plane.next.Goals as goal

pub returns-then-column-self-clause-along : goal.returns-then-column-self-clause-along
returns-then-column-self-clause-along c = λ place along. along_right c.args.self.now.columns place c.args.column c.args.row (omega (arith, along.inside)) along

pub returns-else-column-self-clause-along : goal.returns-else-column-self-clause-along
returns-else-column-self-clause-along c = λ place along. along_next_row c.args.self.now.columns place c.args.column c.args.row (omega (arith, along.inside)) along
