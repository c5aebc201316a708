use Rattle.std.proofs.Common.{arith}
use Rattle.thr_quant.proofs.WidthLemmas.{all-wider}
use Rattle.thr_quant.proofs.write.write_scales.Goals as goal

pub put_words-requires-clause-small : goal.put_words-requires-clause-small
put_words-requires-clause-small c = all-wider c.width_of_words.result c.max-width.result c.args.scales.now (omega arith) c.width_of_words.ensures.small
