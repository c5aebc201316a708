use Rattle.std.proofs.Common.{refl}
use Rattle.cut_list.proofs.NumberLemmas.{too_great}
use Rattle.cut_list.proofs.number.decimal.Goals as goal

pub returns-then-value-gt-GREATEST-clause-value : goal.returns-then-value-gt-GREATEST-clause-value
returns-then-value-gt-GREATEST-clause-value c =
    let over = rw (c.from.ensures, c.saturating_sub.ensures) at c.if-value-gt-GREATEST.true in
    rw (too_great c.loop-digit.value c.loop-digit.digit-index _ c.args.digits.now c.loop-digit-test.true c.loop-digit.invariant.value refl over) refl
