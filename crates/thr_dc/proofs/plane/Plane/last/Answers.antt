use Rattle.std.proofs.Common.{◌≡◌, ◌∙◌, FitsSigned, arith, rules, sym}
use Rattle.std.specs.Int.{w16}
use Rattle.std.proofs.lemmas.Int.{to_z-of_z}
use Rattle.thr_dc.specs.Prediction.{last_of}
use Rattle.thr_dc.specs.Walks.{blocks_of}
use Rattle.thr_dc.proofs.PlaneLemmas.{plane_long}
use Rattle.thr_dc.proofs.PredictionLemmas.{last_found, last_passed}
use Rattle.thr_dc.proofs.plane.Plane.last.Goals as goal

pub returns-in-Some : goal.returns-in-Some
returns-in-Some c =
    let plane = c.args.self.now in
    let long = plane_long plane.geom.now plane.flags.now plane.kinds.now c.args.values.now plane.pli in
    let fits : FitsSigned w16 c.in-Some.value = search rules in
    rw (to_z-of_z w16 c.in-Some.value fits)
    (sym (last_found c.args.kind (blocks_of plane c.args.values.now) c.places.place c.in-Some.value (omega arith) (omega arith) c.in-Some.ensures) ∙ c.places.invariant)

pub places-preserved : goal.places-preserved
places-preserved c =
    let plane = c.args.self.now in
    let long = plane_long plane.geom.now plane.flags.now plane.kinds.now c.args.values.now plane.pli in
    last_passed c.args.kind (blocks_of plane c.args.values.now) c.places.place (omega arith) (omega arith) (sym c.in_default.is ∙ c.counted.ensures) ∙ c.places.invariant

pub returns : goal.returns
unfolding last_of
returns c =
    let done : c.places.place ≡ 0 = omega arith in
    rw done at c.places.invariant
