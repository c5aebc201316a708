use Rattle.std.proofs.Common.{arith}
use Rattle.thr_quant.proofs.write.write_limits.Goals as goal

pub put-requires-clause-value : goal.put-requires-clause-value
put-requires-clause-value c = omega (arith, c.width_of_bytes-width.ensures.least 7 c.args.limits.now.small)

pub put_bytes-requires-clause-width : goal.put_bytes-requires-clause-width
put_bytes-requires-clause-width c = omega (arith, c.width_of_bytes-width.ensures.least 7 c.args.limits.now.small)
