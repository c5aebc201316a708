use Rattle.std.proofs.Common.{◌≡◌, ◌≤◌, ◌<◌, ◌+◌, ◌*◌, ◌∙◌, length, refl, ap, arith}
use Rattle.enc_frame.proofs.DifferenceLemmas.{max_more, sum_more, none_left}
use Rattle.enc_frame.proofs.difference.with_row.Goals as goal

pub samples-init : goal.samples-init
samples-init c = record { max_is = refl; sum_is = refl; few = omega arith }

pub overflow_add-sum : goal.overflow_add-sum
overflow_add-sum c = omega (arith, c.samples.invariant.few, c.requires.room, c.samples-test.true, c.apart-apart.ensures.small, c.from-sum.ensures)

pub samples-preserved : goal.samples-preserved
samples-preserved c =
    let a = c.args.a.now in
    let b = c.args.b.now in
    let k = c.samples.k in
    let d = c.apart-apart.result in
    let i = c.samples.invariant in
    let below : k < length b = omega (arith, c.requires.same, c.samples-test.true) in
    record {
      max_is = rw c.max-max.ensures (max_more a b k c.samples.max d _ c.samples-test.true below c.apart-apart.ensures.value i.max_is);
      sum_is = rw c.from-sum.ensures (sum_more a b k c.samples.sum d _ c.samples-test.true below c.apart-apart.ensures.value i.sum_is);
      few = omega (arith, i.few, c.apart-apart.ensures.small, c.from-sum.ensures);
    }

pub returns-clause-max : goal.returns-clause-max
returns-clause-max c = omega (arith, c.samples.invariant.max_is, none_left c.args.a.now c.args.b.now c.samples.k c.samples-test.false (omega (arith, c.requires.same, c.samples-test.false)))

pub returns-clause-sum : goal.returns-clause-sum
returns-clause-sum c = omega (arith, c.samples.invariant.sum_is, none_left c.args.a.now c.args.b.now c.samples.k c.samples-test.false (omega (arith, c.requires.same, c.samples-test.false)))

pub returns-clause-few : goal.returns-clause-few
returns-clause-few c = omega (arith, c.samples.invariant.few, c.samples.auto)
