use Rattle.std.proofs.Common.{◌∙◌, arith}
use Rattle.std.specs.Int.{w16}
use Rattle.std.proofs.lemmas.Int.{to_z-of_z}
use Rattle.thr_recon.proofs.ResidualLemmas.{product_is}
use Rattle.thr_recon.proofs.coefficients.product.Goals as goal
use mir.Val.{SFits}

pub returns : goal.returns
returns c =
    let fits : SFits w16 c.cast_signed.result = record { sfits = c.cast_signed.type_inv } in
    to_z-of_z w16 _ fits ∙ c.cast_signed.ensures ∙ product_is c.args.bits c.args.factor (omega arith) (omega arith)
