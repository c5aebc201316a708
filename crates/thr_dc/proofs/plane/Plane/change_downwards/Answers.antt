use Rattle.std.proofs.Common.{◌-◌, arith}
use Rattle.std.proofs.lemmas.List.{drop_all}
use Rattle.std.proofs.lemmas.List.Elements.{All-nil}
use Rattle.vid_geom.specs.CodedOrder.{block_columns, block_rows}
use Rattle.thr_dc.specs.Changes.{value_by}
use Rattle.thr_dc.specs.Walks.{IsShort, blocks_of}
use Rattle.thr_dc.proofs.PlaneLemmas.{along_here, plane_long, some_column}
use Rattle.thr_dc.proofs.WalkLemmas.{by_old_more, by_old_none, changes_in_more, changes_in_none, short_back}
use Rattle.thr_dc.proofs.plane.Plane.change_downwards.Goals as goal

pub places-init : goal.places-init
places-init c =
    let plane = c.args.self.now in
    let s = plane.geom.now in
    let old = blocks_of plane c.args.values.now in
    let long = plane_long s plane.flags.now plane.kinds.now c.args.values.now plane.pli in
    record {
      blocks = by_old_none (value_by c.args.change) (block_columns s plane.pli) plane.blocks old (omega arith);
      short = rw (drop_all plane.blocks old (omega arith)) (All-nil IsShort);
      rest = changes_in_none s plane.flags.now plane.kinds.now plane.pli c.args.values.now;
    }

pub change_block-requires-clause-spot : goal.change_block-requires-clause-spot
change_block-requires-clause-spot c =
    let plane = c.args.self.now in
    let some = some_column (block_columns plane.geom.now plane.pli) (block_rows plane.geom.now plane.pli) (c.places.place - 1) (omega arith) in
    along_here plane.columns _ (omega (arith, some, plane.is_plane.columns_are))

pub places-preserved : goal.places-preserved
places-preserved c =
    let plane = c.args.self.now in
    let s = plane.geom.now in
    let old = blocks_of plane c.args.values.now in
    let long = plane_long s plane.flags.now plane.kinds.now c.args.values.now plane.pli in
    record {
      blocks = by_old_more (value_by c.args.change) (block_columns s plane.pli) c.places.place old (blocks_of plane c.places.values) (blocks_of plane c.change_block.new.values) (omega arith) (omega arith) c.change_block.ensures.replaces.blocks c.places.invariant.blocks;
      short = short_back (value_by c.args.change) (block_columns s plane.pli) c.places.place old (blocks_of plane c.places.values) (omega arith) (omega arith) c.places.invariant.blocks c.change_block.ensures.replaces.short c.places.invariant.short;
      rest = changes_in_more s plane.flags.now plane.kinds.now plane.pli c.args.values.now c.places.values c.change_block.new.values c.places.invariant.rest c.change_block.ensures.replaces.rest;
    }
