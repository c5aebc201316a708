use Rattle.std.proofs.Common.{◌∙◌, ◌+◌, ◌*◌, ◌<◌, ap, refl}
use Rattle.vid_geom.specs.CodedOrder.{block_columns, block_rows, place_of, plane_blocks}
use Rattle.thr_dc.specs.Planes.{IsAlong}
use Rattle.thr_dc.proofs.PlaneLemmas.{along_block, along_within}
use Rattle.thr_dc.proofs.plane.Plane.neighbour.Goals as goal

pub returns-then-there : goal.returns-then-there
returns-then-there c =
    let plane = c.args.self.now in
    let s = plane.geom.now in
    let place = c.args.row * plane.columns + c.args.column in
    let here : IsAlong plane.columns place c.args.column c.args.row = record { inside = rw plane.is_plane.columns_are (c.requires.column c.if-there.true); place_is = refl } in
    let along : IsAlong (block_columns s plane.pli) place c.args.column c.args.row = rw (← plane.is_plane.columns_are) here in
    let within : place < plane_blocks s plane.pli = along_within (block_columns s plane.pli) (block_rows s plane.pli) place c.args.column c.args.row (c.requires.row c.if-there.true) along in
    rw c.if-there.true
    (c.block.ensures place within (c.coded_place_at.ensures.value ∙ ap (place_of s) (along_block s plane.pli place c.args.column c.args.row along)))
