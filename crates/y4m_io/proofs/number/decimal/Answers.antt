use Rattle.std.proofs.Common.{◌∙◌, ◌+◌, ◌*◌, ap, arith, refl, add-one}
use Rattle.std.specs.Prelude.{min}
use Rattle.y4m_io.proofs.NumberLemmas.{digit_more}
use Rattle.y4m_io.proofs.number.decimal.Goals as goal

pub loop-digit-preserved : goal.loop-digit-preserved
loop-digit-preserved c =
    let digit = c.from.ensures ∙ c.saturating_sub.ensures in
    let is = c.cut-value.ensures ∙ ap (λ n. min (10 * c.loop-digit.value + n) 4294967296) digit in
    record {
      small = omega (arith, c.cut-value.ensures);
      value = rw add-one (digit_more 4294967296 c.loop-digit.value c.cut-value.result c.loop-digit.digit-index _ c.args.digits.now _ c.loop-digit-test.true refl is c.loop-digit.invariant.value);
    }
