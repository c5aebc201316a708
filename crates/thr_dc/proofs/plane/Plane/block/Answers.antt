use Rattle.std.proofs.Common.{[], get_or, pos, FitsSigned, rules, refl}
use Rattle.std.specs.Int.{w16}
use Rattle.std.proofs.lemmas.Int.{to_z-of_z}
use Rattle.thr_dc.proofs.PlaneLemmas.{coded_block, uncoded_block}
use Rattle.thr_dc.proofs.plane.Plane.block.Goals as goal

pub returns-then-self-coded_place : goal.returns-then-self-coded_place
returns-then-self-coded_place c = λ place within at.
    let plane = c.args.self.now in
    let value = get_or (get_or c.args.values.now c.args.coded_place []) 0 (pos 0) in
    let fits : FitsSigned w16 value = search rules in
    rw (
      to_z-of_z w16 value fits,
      coded_block plane.geom.now plane.flags.now plane.kinds.now c.args.values.now plane.pli place c.args.coded_place within at c.if-self-coded_place.true,
    ) refl

pub returns-else-self-coded_place : goal.returns-else-self-coded_place
returns-else-self-coded_place c = λ place within at.
    let plane = c.args.self.now in
    rw (uncoded_block plane.geom.now plane.flags.now plane.kinds.now c.args.values.now plane.pli place c.args.coded_place within at c.if-self-coded_place.false) refl
