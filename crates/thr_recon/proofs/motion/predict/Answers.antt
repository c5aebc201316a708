use Rattle.std.proofs.Common.{rules, arith}
use Rattle.std.specs.Int.{w8}
use Rattle.std.proofs.lemmas.Int.{ints, to_z-of_z}
use Rattle.thr_recon.proofs.PredictedLemmas.{shown-one, shown-two}
use Rattle.thr_recon.proofs.motion.predict.Goals as goal
use Rattle.thr_recon.proofs.motion.predict.Goals.{else-near_x-far_x-via-then-near_x-far_x+else-near_y-far_y, else-near_x-far_x-via-else-near_x-far_x}
use mir.Val.{SFits}

pub returns-then-near_y-far_y : goal.returns-then-near_y-far_y
returns-then-near_y-far_y c =
    let x_fits : SFits w8 c.args.vector.x = search rules in
    let y_fits : SFits w8 c.args.vector.y = search rules in
    let near_x = simp to_z-of_z at c.near_offset-near_x.ensures.value in
    let near_y = simp to_z-of_z at c.near_offset-near_y.ensures.value in
    let far_x = simp to_z-of_z at c.far_offset-far_x.ensures.value in
    let far_y = simp to_z-of_z at c.far_offset-far_y.ensures.value in
    shown-one c.window-near.result c.args.reference.now c.args.x c.args.y c.args.vector c.args.half_x c.args.half_y
    (record { plane = c.window-near.ensures.plane; left_is = omega (arith, ints); lower_is = omega (arith, ints) })
    (omega (arith, ints)) (omega (arith, ints))

pub returns : goal.returns
returns c =
    let x_fits : SFits w8 c.args.vector.x = search rules in
    let y_fits : SFits w8 c.args.vector.y = search rules in
    let near_x = simp to_z-of_z at c.near_offset-near_x.ensures.value in
    let near_y = simp to_z-of_z at c.near_offset-near_y.ensures.value in
    let far_x = simp to_z-of_z at c.far_offset-far_x.ensures.value in
    let far_y = simp to_z-of_z at c.far_offset-far_y.ensures.value in
    shown-two c.window-near.result c.window.result c.args.reference.now c.args.x c.args.y c.args.vector c.args.half_x c.args.half_y
    (record { plane = c.window-near.ensures.plane; left_is = omega (arith, ints); lower_is = omega (arith, ints) })
    (record { plane = c.window.ensures.plane; left_is = omega (arith, ints); lower_is = omega (arith, ints) })
    (λ same_x same_y. elim c.else-near_x-far_x.branch [
      | else-near_x-far_x-via-then-near_x-far_x+else-near_y-far_y w ↦ omega (arith, ints)
      | else-near_x-far_x-via-else-near_x-far_x w ↦ omega (arith, ints)
    ])
