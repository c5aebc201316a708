use Rattle.std.proofs.Common.{arith}
use Rattle.std.specs.Int.{w16}
use Rattle.std.proofs.lemmas.Int.{to_z-of_z}
use Rattle.enc_near.proofs.LackingLemmas.{all_differences, more_differences, no_difference}
use Rattle.enc_near.proofs.lacking.lacking.Goals as goal
use mir.Val.{SFits}

pub loop-k-init : goal.loop-k-init
loop-k-init c = no_difference c.args.target.now c.args.predicted.now

pub loop-k-preserved : goal.loop-k-preserved
loop-k-preserved c =
    let fits : SFits w16 c.difference.result = record { sfits = c.difference.type_inv } in
    rw (to_z-of_z w16 c.difference.result fits)
    (more_differences c.args.target.now c.args.predicted.now c.loop-k.k c.loop-k.out c.difference.result c.loop-k-test.true c.difference.ensures.value c.difference.ensures.bound c.loop-k.invariant)

pub returns-clause-value : goal.returns-clause-value
returns-clause-value c = λ f g e h. all_differences f g c.args.target.now c.args.predicted.now c.loop-k.k c.loop-k.out (omega arith) c.loop-k.invariant e h
