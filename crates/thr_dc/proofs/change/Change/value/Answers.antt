use Rattle.std.proofs.Common.{◌≤◌, ℤ, pos, ◌+ℤ◌, ◌-ℤ◌, FitsSigned, unsigned_abs, arith}
use Rattle.std.specs.Int.{w16, w32}
use Rattle.std.proofs.lemmas.Int.{ints, clamps, to_z-of_z}
use Rattle.thr_dc.specs.Prediction.{nearest}
use Rattle.thr_dc.proofs.change.Change.value.Goals as goal

-- a number between a value of 16 bits and one near it
nearest_fits : (value predictor : ℤ) → FitsSigned w16 value → unsigned_abs predictor ≤ 32896 → FitsSigned w16 (nearest value predictor)
nearest_fits value predictor f h = omega (arith, ints, clamps)

wider : (z : ℤ) → FitsSigned w16 z → FitsSigned w32 z
wider z f = omega (arith, ints)

near_fits : (predictor : ℤ) → unsigned_abs predictor ≤ 32896 → FitsSigned w32 (predictor -ℤ pos 580) × FitsSigned w32 (predictor +ℤ pos 580)
near_fits predictor h = (omega (arith, ints), omega (arith, ints))

pub returns-in-Limit : goal.returns-in-Limit
returns-in-Limit c =
    let value = c.args.value in
    let predictor = c.args.predictor in
    let near = near_fits predictor c.requires in
    let from = rw (to_z-of_z w16 value c.ranges.value) at c.from-in-Limit.ensures in
    let at = rw (to_z-of_z w32 predictor c.ranges.predictor, to_z-of_z w32 (predictor -ℤ pos 580) near.0, to_z-of_z w32 (predictor +ℤ pos 580) near.1, from, to_z-of_z w32 value (wider value c.ranges.value)) at c.clamp.ensures.value in
    let fits = nearest_fits value predictor c.ranges.value c.requires in
    rw (c.in-Limit.is, at, to_z-of_z w32 (nearest value predictor) (wider (nearest value predictor) fits)) (to_z-of_z w16 (nearest value predictor) fits)
