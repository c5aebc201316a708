use Rattle.std.proofs.Common.{arith}
use Rattle.std.proofs.lemmas.Grind.{get_or_default_zero}
use Rattle.thr_quant.proofs.laws.words_are_small.Goals as goal

pub returns : goal.returns
returns c = λ k d h. rw (get_or_default_zero c.args.numbers.now k d h) (omega (arith, c.type_inv.numbers k))
