use Rattle.std.proofs.Common.{◌^◌, arith, ◌∙◌, ◌<◌}
use Rattle.thr_quant.proofs.WritingLemmas.{width_is, width_holds, width_most}
use Rattle.thr_quant.proofs.numbers.width_of_words.Goals as goal

pub returns-clause-value : goal.returns-clause-value
returns-clause-value c = c.ilog.ensures.value ∙ width_is c.loop-number.number-index c.loop-number.greatest c.from.result c.args.numbers.now (omega arith) c.from.ensures c.loop-number.invariant.greatest

pub returns-clause-small : goal.returns-clause-small
returns-clause-small c =
    let above : c.loop-number.greatest < 2 ^ c.ilog.result = omega (arith, c.ilog.ensures.above, c.from.ensures) in
    width_holds c.loop-number.number-index c.loop-number.greatest (2 ^ c.ilog.result) c.args.numbers.now (omega arith) above c.loop-number.invariant.bound

pub returns-clause-least : goal.returns-clause-least
returns-clause-least c = λ k small. c.ilog.ensures.least k (rw c.from.ensures (width_most c.loop-number.number-index c.loop-number.greatest k c.args.numbers.now (omega arith) c.loop-number.invariant.greatest small))

pub returns-clause-bound : goal.returns-clause-bound
returns-clause-bound c = c.ilog.ensures.least 16 (omega arith)
