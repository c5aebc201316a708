use Rattle.std.proofs.Common.{◌≤◌, FitsSigned, unsigned_abs, rules, arith, sym}
use Rattle.std.specs.Int.{w16, w32}
use Rattle.std.proofs.lemmas.Int.{ints, to_z-of_z}
use Rattle.thr_dc.proofs.PredictorLemmas.{not_far}
use Rattle.thr_dc.proofs.predictor.extended.Goals as goal

pub returns-else-far-3-clause-within : goal.returns-else-far-3-clause-within
returns-else-far-3-clause-within c =
    let fits : FitsSigned w32 c.slope-p.result = search rules in
    let small : unsigned_abs c.args.below ≤ 32768 = omega (arith, ints) in
    let near = rw (to_z-of_z w32 c.slope-p.result fits, to_z-of_z w16 c.args.below c.ranges.below) at c.if-far.ensures in
    rw (to_z-of_z w32 c.slope-p.result fits) (not_far c.slope-p.result c.args.below 32768 small (sym near))
