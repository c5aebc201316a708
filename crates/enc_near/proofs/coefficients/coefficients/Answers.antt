use Rattle.std.proofs.Common.{rules, arith}
use Rattle.std.specs.Int.{w16, w32}
use Rattle.std.proofs.lemmas.Int.{to_z-of_z}
use Rattle.thr_dct.specs.Line.{entry}
use Rattle.enc_near.proofs.CoefficientLemmas.{all_made, more_made, one_made}
use Rattle.enc_near.proofs.coefficients.coefficients.Goals as goal
use mir.Val.{SFits}

pub loop-z-init : goal.loop-z-init
loop-z-init c =
    let fits : SFits w16 c.first_quotient.result = record { sfits = c.first_quotient.type_inv } in
    let wide : SFits w32 (entry c.args.wanted.now 0) = search rules in
    let value = simp to_z-of_z at c.first_quotient.ensures.value in
    rw (to_z-of_z w16 c.first_quotient.result fits) (one_made c.args.wanted.now c.args.matrix.now c.first_quotient.result value c.first_quotient.ensures.small)

pub loop-z-preserved : goal.loop-z-preserved
loop-z-preserved c =
    let fits : SFits w16 c.nearest.result = record { sfits = c.nearest.type_inv } in
    let wide : SFits w32 (entry c.args.wanted.now c.natural-k.result) = search rules in
    let value = simp to_z-of_z at c.nearest.ensures.value in
    let at = c.natural-k.ensures.value in
    rw (to_z-of_z w16 c.nearest.result fits)
    (more_made c.args.wanted.now c.args.matrix.now c.loop-z.z c.loop-z.out c.nearest.result (omega arith) (omega arith) (rw at at value) c.nearest.ensures.small c.loop-z.invariant)

pub returns : goal.returns
returns c = all_made c.args.wanted.now c.args.matrix.now c.loop-z.z c.loop-z.out (omega arith) c.loop-z.invariant
