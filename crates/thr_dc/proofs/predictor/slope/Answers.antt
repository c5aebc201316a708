use Rattle.std.proofs.Common.{ℤ, pos, FitsSigned, ◌<ℤ◌, ◌≤◌, unsigned_abs, int_div, rules, arith}
use Rattle.std.specs.Int.{w32}
use Rattle.std.proofs.lemmas.Int.{ints, quot_fits, quot_is}
use Rattle.thr_dc.proofs.predictor.slope.Goals as goal

slope_small : (s : ℤ) → unsigned_abs s ≤ 20000000 → unsigned_abs (int_div s (pos 32)) ≤ 1000000
slope_small s h = omega (arith, ints)

pub returns-clause-small : goal.returns-clause-small
returns-clause-small c =
    let fits : FitsSigned w32 c.sum.result = search rules in
    let some : FitsSigned w32 (pos 32) = search rules in
    let up : pos 0 <ℤ pos 32 = search rules in
    let most : unsigned_abs (int_div c.sum.result (pos 32)) ≤ 1000000 = slope_small c.sum.result c.sum.ensures.small in
    rw (quot_is w32 c.sum.result (pos 32) fits some (quot_fits w32 c.sum.result (pos 32) fits up)) most
