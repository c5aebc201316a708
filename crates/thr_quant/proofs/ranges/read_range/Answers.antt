use Rattle.std.proofs.Common.{arith}
use Rattle.thr_quant.proofs.WidthLemmas.{size-lt}
use Rattle.thr_quant.proofs.ranges.read_range.Goals as goal

pub overflow_cast-size : goal.overflow_cast-size
overflow_cast-size c = omega (arith, size-lt c.in_ok-size.field-0 c.ilog.result c.from.result c.in_ok-size.ensures.small (omega arith) c.ilog.ensures.least)

pub overflow_add-size : goal.overflow_add-size
overflow_add-size c = omega (arith, size-lt c.in_ok-size.field-0 c.ilog.result c.from.result c.in_ok-size.ensures.small (omega arith) c.ilog.ensures.least)
