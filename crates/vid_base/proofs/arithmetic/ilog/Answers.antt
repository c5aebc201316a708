use Rattle.vid_base.proofs.ArithmeticLemmas.{length_above, length_least}
use Rattle.std.proofs.Common.{arith}
use Rattle.vid_base.proofs.arithmetic.ilog.Goals as goal

pub returns-clause-above : goal.returns-clause-above
returns-clause-above c = length_above c.args.v (omega arith)

pub returns-clause-least : goal.returns-clause-least
returns-clause-least c = length_least c.args.v (omega arith)
