use Rattle.std.proofs.Common.{◌∙◌, arith}
use Rattle.std.specs.Int.{w16}
use Rattle.std.proofs.lemmas.Int.{to_z-of_z}
use Rattle.thr_recon.proofs.ResidualLemmas.{first_set}
use Rattle.thr_recon.proofs.coefficients.products.Goals as goal
use mir.Val.{SFits}

pub returns : goal.returns
returns c =
    let fits : SFits w16 c.product-2.result = record { sfits = c.product-2.type_inv } in
    first_set c.args.ordered.now c.args.dc c.args.ac.now c.loop-p.out _ c.loop-p.invariant.long (λ k below. c.loop-p.invariant.done k (omega arith)) (to_z-of_z w16 _ fits ∙ c.product-2.ensures)
