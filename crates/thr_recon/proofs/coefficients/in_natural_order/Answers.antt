use Rattle.std.proofs.Common.{◌∙◌, ◌++◌, take, ap, arith}
use Rattle.std.proofs.lemmas.List.{take_all}
use Rattle.thr_recon.specs.Residual.{zigzag}
use Rattle.thr_recon.proofs.coefficients.in_natural_order.Goals as goal
use lib.Lanes.{pick_l}

pub returns : goal.returns
returns c =
    let low = c.args.low.now in
    let high = c.args.high.now in
    ap (λ xs. pick_l 0 (xs ++ take 32 high) zigzag) (take_all 32 low (omega arith)) ∙ ap (λ ys. pick_l 0 (low ++ ys) zigzag) (take_all 32 high (omega arith))
