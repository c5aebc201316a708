use Rattle.std.proofs.Common.{refl}
use Rattle.std.specs.Int.{w8, w32}
use Rattle.std.proofs.lemmas.Int.{to_z-of_z}
use Rattle.thr_recon.specs.Predicted.{near_offset}
use Rattle.thr_recon.proofs.motion.near_offset.Goals as goal
use Rattle.thr_recon.proofs.motion.near_offset.Goals.{then-quarters, else-quarters}
use mir.Val.{SFits}

pub returns-clause-value : goal.returns-clause-value
unfolding near_offset
returns-clause-value c =
    let result_fits : SFits w32 c.signed.result = record { sfits = c.signed.type_inv } in
    let component_fits : SFits w8 c.args.component = c.ranges.component in
    elim c.if-quarters.branch [
      | then-quarters w ↦ rw (to_z-of_z w32 _ result_fits, c.signed.ensures.value, w.signed-is, c.unsigned_abs-size.ensures.value, to_z-of_z w8 _ component_fits, w.if-quarters.true) refl
      | else-quarters w ↦ rw (to_z-of_z w32 _ result_fits, c.signed.ensures.value, w.signed-is, c.unsigned_abs-size.ensures.value, to_z-of_z w8 _ component_fits, w.if-quarters.false) refl
    ]
