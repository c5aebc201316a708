use Rattle.std.proofs.Common.{arith}
use Rattle.thr_loop.proofs.ResponseLemmas.{before_is}
use Rattle.thr_loop.proofs.lines.before.Goals as goal

pub returns : goal.returns
returns c =
    rw (c.saturating_sub.ensures, c.saturating_add.ensures, c.rise.ensures, c.fall.ensures)
    (before_is c.args.limit c.raised_response-raised.result c.args.p0 c.args.p1 c.args.p2 c.args.p3 (omega arith) c.raised_response-raised.ensures.value)
