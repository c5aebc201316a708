use Rattle.std.proofs.Common.{◌≡◌, ◌∙◌, ◌<◌, ◌+◌, List, [], Option, None, Some, pos, FitsSigned, get_or, length, set, arith, ap, refl, rules, subst, sym}
use Rattle.std.specs.Int.{w16, w32}
use Rattle.std.proofs.lemmas.Int.{to_z-of_z}
use Rattle.std.proofs.lemmas.List.{get_or-set_same, set-get_or}
use Rattle.vid_geom.specs.CodedOrder.{place_of, plane_blocks}
use Rattle.thr_dc.specs.declared.plane.CodedBlock.{CodedBlock}
use Rattle.thr_dc.specs.Blocks.{Coded}
use Rattle.thr_dc.specs.Planes.{IsKnown, coded}
use Rattle.thr_dc.specs.Prediction.{changed}
use Rattle.thr_dc.specs.Walks.{blocks_of}
use Rattle.thr_dc.proofs.NeighbourLemmas.{known_right}
use Rattle.thr_dc.proofs.PlaneLemmas.{along_block, coded_block, plane_long, uncoded_block}
use Rattle.thr_dc.proofs.WalkLemmas.{changes_in_none, changes_in_set, plane_set}
use Rattle.thr_dc.proofs.plane.Plane.change_block.Goals as goal

pub coded_place_at-coded_place-requires-clause-column : goal.coded_place_at-coded_place-requires-clause-column
coded_place_at-coded_place-requires-clause-column c = omega (arith, c.requires.spot.inside, c.args.self.now.is_plane.columns_are)

pub returns-then-not-self-coded_place-clause-replaces : goal.returns-then-not-self-coded_place-clause-replaces
unfolding changed
returns-then-not-self-coded_place-clause-replaces c =
    let plane = c.args.self.now in
    let within : c.args.spot.place < plane_blocks plane.geom.now plane.pli = omega arith in
    let here = c.coded_place_at-coded_place.ensures.value ∙ ap (place_of plane.geom.now) (along_block plane.geom.now plane.pli c.args.spot.place c.args.spot.column c.args.spot.row (rw plane.is_plane.columns_are at c.requires.spot)) in
    let uncoded = uncoded_block plane.geom.now plane.flags.now plane.kinds.now c.args.values.now plane.pli c.args.spot.place c.coded_place_at-coded_place.result within here c.if-not-self-coded_place.true in
    record {
      blocks = sym (ap (λ block. set (blocks_of plane c.args.values.now) c.args.spot.place block) (rw uncoded refl) ∙ set-get_or (blocks_of plane c.args.values.now) c.args.spot.place None);
      short = rw uncoded tt;
      rest = changes_in_none plane.geom.now plane.flags.now plane.kinds.now plane.pli c.args.values.now;
    }

pub returns-then-not-self-coded_place-clause-left : goal.returns-then-not-self-coded_place-clause-left
returns-then-not-self-coded_place-clause-left c =
    let plane = c.args.self.now in
    let within : c.args.spot.place < plane_blocks plane.geom.now plane.pli = omega arith in
    sym (uncoded_block plane.geom.now plane.flags.now plane.kinds.now c.args.values.now plane.pli c.args.spot.place c.coded_place_at-coded_place.result within (c.coded_place_at-coded_place.ensures.value ∙ ap (place_of plane.geom.now) (along_block plane.geom.now plane.pli c.args.spot.place c.args.spot.column c.args.spot.row (rw plane.is_plane.columns_are at c.requires.spot))) c.if-not-self-coded_place.true)

pub returns : goal.returns
unfolding changed
returns c =
    let plane = c.args.self.now in
    let spot = c.args.spot in
    let s = plane.geom.now in
    let flags = plane.flags.now in
    let kinds = plane.kinds.now in
    let values = c.args.values.now in
    let at = c.coded_place_at-coded_place.result in
    let within : spot.place < plane_blocks s plane.pli = omega arith in
    let here = c.coded_place_at-coded_place.ensures.value ∙ ap (place_of s) (along_block s plane.pli spot.place spot.column spot.row (rw plane.is_plane.columns_are at c.requires.spot)) in
    let there : at < length values = omega (arith, c.coded_place_at-coded_place.ensures.below) in
    let long : length (get_or values at []) ≡ 64 = c.told-values at there in
    let new = c.value-value.result in
    let fits : FitsSigned w16 new = search rules in
    let was = coded_block s flags kinds values plane.pli spot.place at within here c.if-not-self-coded_place.false in
    let value = get_or (get_or values at []) 0 (pos 0) in
    let value_fits : FitsSigned w16 value = search rules in
    let predictor_fits : FitsSigned w32 c.predictor-predictor.result = search rules in
    let is = rw (to_z-of_z w16 value value_fits, to_z-of_z w32 c.predictor-predictor.result predictor_fits, c.predictor-predictor.ensures.value) at c.value-value.ensures in
    let blocks = plane_set s flags kinds values plane.pli spot.place at new plane.is_plane.number within here c.if-not-self-coded_place.false there (omega arith) in
    let block : Option CodedBlock = Some (record { kind = get_or kinds at 0; value = new }) in
    let known = c.known-known.result in
    let right = c.lower_right-lower_right.result in
    let P : List (Option Coded) → Type 0 = λ l. IsKnown plane.columns l (spot.column + 1) spot.row (record { left = block; lower_left = known.below; below = right }) in
    let long_plane = plane_long s flags kinds values plane.pli in
    rw (to_z-of_z w16 new fits) record {
      replaces = rw was record {
        blocks = blocks ∙ ap (λ v. set (blocks_of plane values) spot.place (Some (record { kind = get_or kinds at 0; value = v }))) is;
        short = rw was value_fits;
        rest = changes_in_set s flags kinds values plane.pli spot.place at new plane.is_plane.number within here c.if-not-self-coded_place.false there (omega arith);
      };
      carried = λ more. subst P (sym blocks) (known_right plane.columns spot.place spot.column spot.row (blocks_of plane values) known block right c.requires.spot (omega arith) more c.known-known.ensures c.lower_right-lower_right.ensures);
      left = sym (ap (λ l. get_or l spot.place None) blocks ∙ get_or-set_same (blocks_of plane values) spot.place (coded block) None (omega arith));
    }
