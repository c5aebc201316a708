use Rattle.std.proofs.Common.{arith}
use Rattle.thr_loop.proofs.ResponseLemmas.{response_is}
use Rattle.thr_loop.proofs.lines.raised_response.Goals as goal

pub returns-clause-value : goal.returns-clause-value
returns-clause-value c =
    rw (c.from.ensures, c.from-2.ensures, c.from-3.ensures, c.from-4.ensures) (response_is c.args.p0 c.args.p1 c.args.p2 c.args.p3 (omega arith) (omega arith) (omega arith) (omega arith))
