use Rattle.std.proofs.Common.{arith}
use Rattle.thr_dc.specs.Changes.{plane_by}
use Rattle.thr_dc.proofs.FrameLemmas.{planes_all, planes_more, planes_none}
use Rattle.thr_dc.proofs.frame.change_planes.Goals as goal

pub planes-init : goal.planes-init
planes-init c = planes_none (plane_by c.args.change) c.args.geom.now c.args.flags.now c.args.kinds.now c.args.values.now

pub planes-preserved : goal.planes-preserved
planes-preserved c =
    let plane = c.new-plane.ensures in
    let here = rw (plane.geom, plane.flags, plane.kinds, plane.plane) at c.change.ensures in
    planes_more (plane_by c.args.change) c.args.geom.now c.args.flags.now c.args.kinds.now c.planes.pli c.args.values.now c.planes.values c.change.new.values (omega arith) c.planes.invariant here

pub returns : goal.returns
returns c = planes_all (plane_by c.args.change) c.args.geom.now c.args.flags.now c.args.kinds.now c.planes.pli c.args.values.now c.planes.values (omega arith) c.planes.invariant
