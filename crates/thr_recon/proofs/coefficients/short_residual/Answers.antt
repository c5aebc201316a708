use Rattle.std.proofs.Common.{rules, arith, refl, pos, ◌+ℤ◌}
use Rattle.std.specs.Int.{w16, w64}
use Rattle.std.specs.Int.Signed.{shr_z}
use Rattle.std.proofs.lemmas.Int.{ints, to_z-of_z}
use Rattle.thr_dct.specs.Line.{cut}
use Rattle.thr_recon.specs.Residual.{short_residual}
use Rattle.thr_recon.proofs.ResidualLemmas.{shifted_fits}
use Rattle.thr_recon.proofs.coefficients.short_residual.Goals as goal
use mir.Val.{SFits}

pub returns : goal.returns
unfolding short_residual cut
returns c =
    let result_fits : SFits w16 c.trunc16.result = record { sfits = c.trunc16.type_inv } in
    let product_fits : SFits w64 c.whole_product.result = record { sfits = c.whole_product.type_inv } in
    let sum_fits : SFits w64 (c.whole_product.result +ℤ pos 15) = search rules in
    let shift_fits : SFits w64 (shr_z (c.whole_product.result +ℤ pos 15) 32) = shifted_fits _ (omega (arith, ints)) (omega (arith, ints)) in
    let cut_is = simp to_z-of_z at c.trunc16.ensures in
    rw (to_z-of_z w16 _ result_fits, cut_is, c.whole_product.ensures.value) refl
