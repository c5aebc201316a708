use Rattle.std.proofs.Common.{FitsSigned, arith, refl, rules}
use Rattle.std.specs.Int.{w16, w32}
use Rattle.std.proofs.lemmas.Int.{to_z-of_z}
use Rattle.thr_dc.specs.Prediction.{predicted}
use Rattle.thr_dc.specs.Walks.{blocks_of}
use Rattle.thr_dc.proofs.NeighbourLemmas.{around_known}
use Rattle.thr_dc.proofs.PlaneLemmas.{plane_long}
use Rattle.thr_dc.proofs.plane.Plane.predictor.Goals as goal

pub returns-in-Some-clause-value : goal.returns-in-Some-clause-value
unfolding predicted
returns-in-Some-clause-value c =
    let plane = c.args.self.now in
    let spot = c.args.spot in
    let blocks = blocks_of plane c.args.values.now in
    let long = plane_long plane.geom.now plane.flags.now plane.kinds.now c.args.values.now plane.pli in
    let fits : FitsSigned w32 c.in-Some.predictor = search rules in
    let found = around_known plane.columns c.args.kind spot.place spot.column spot.row blocks c.args.known c.args.lower_right c.requires.spot (omega arith) c.requires.known c.requires.lower_right in
    rw (to_z-of_z w32 c.in-Some.predictor fits, ← plane.is_plane.columns_are, found, ← c.in-Some.ensures.value) refl

pub returns-in-None-clause-value : goal.returns-in-None-clause-value
unfolding predicted
returns-in-None-clause-value c =
    let plane = c.args.self.now in
    let spot = c.args.spot in
    let blocks = blocks_of plane c.args.values.now in
    let long = plane_long plane.geom.now plane.flags.now plane.kinds.now c.args.values.now plane.pli in
    let fits : FitsSigned w32 c.from.result = search rules in
    let last_fits : FitsSigned w16 c.last_value.result = search rules in
    let found = around_known plane.columns c.args.kind spot.place spot.column spot.row blocks c.args.known c.args.lower_right c.requires.spot (omega arith) c.requires.known c.requires.lower_right in
    rw (to_z-of_z w32 c.from.result fits, c.from.ensures, to_z-of_z w16 c.last_value.result last_fits, ← plane.is_plane.columns_are, found, ← c.in-None.ensures.value) c.last_value.ensures
