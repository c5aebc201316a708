use Rattle.std.proofs.Common.{◌≡◌, ◌≤◌, ◌<ℤ◌, pos, ◌+ℤ◌, ◌*ℤ◌, FitsSigned, int_div, unsigned_abs, rules, arith}
use Rattle.std.specs.Int.{w32}
use Rattle.std.proofs.lemmas.Int.{ints, quot_fits, quot_is, to_z-of_z}
use Rattle.thr_dc.proofs.PredictorLemmas.{mean_below_within}
use Rattle.thr_dc.proofs.predictor.mean_below.Goals as goal

pub returns-clause-within : goal.returns-clause-within
returns-clause-within c =
    let fits : FitsSigned w32 c.sum-2.result = search rules in
    let some : FitsSigned w32 (pos 16) = search rules in
    let up : pos 0 <ℤ pos 16 = search rules in
    let is : c.sum-2.result ≡ pos 3 *ℤ c.args.lower_left +ℤ pos 10 *ℤ c.args.below +ℤ pos 3 *ℤ c.args.lower_right = grind (arith, to_z-of_z) in
    let most : unsigned_abs (int_div c.sum-2.result (pos 16)) ≤ 32896 = rw is (mean_below_within c.args.lower_left c.args.below c.args.lower_right 32768 (omega (arith, ints)) (omega (arith, ints)) (omega (arith, ints))) in
    rw (quot_is w32 c.sum-2.result (pos 16) fits some (quot_fits w32 c.sum-2.result (pos 16) fits up)) most
