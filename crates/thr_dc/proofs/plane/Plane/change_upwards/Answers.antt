use Rattle.std.proofs.Common.{◌∙◌, [], None, ap, get_or, pos, rules, sym, take, arith}
use Rattle.std.specs.Option.{unwrap_or}
use Rattle.std.proofs.lemmas.List.{get_or-replicate, take_all}
use Rattle.vid_geom.specs.CodedOrder.{block_columns, block_rows}
use Rattle.thr_dc.specs.Changes.{value_by}
use Rattle.thr_dc.specs.Prediction.{by_new, changed, counted, last_of}
use Rattle.thr_dc.specs.Walks.{blocks_of}
use Rattle.thr_dc.proofs.PlaneLemmas.{plane_long, row_below, row_is, row_low}
use Rattle.thr_dc.proofs.PredictionLemmas.{last_changed}
use Rattle.thr_dc.proofs.WalkLemmas.{ahead_more, by_new_all, by_new_more, changes_in_more, changes_in_none, short_more}
use Rattle.thr_dc.proofs.plane.Plane.change_upwards.Goals as goal

pub places-init : goal.places-init
unfolding last_of
places-init c = record {
  blocks = search rules;
  along = search rules;
  ahead = search rules;
  short = search rules;
  carried = search rules;
  lasts = λ kind h. get_or-replicate 256 kind (pos 0) (pos 0) h;
  rest = changes_in_none c.args.self.now.geom.now c.args.self.now.flags.now c.args.self.now.kinds.now c.args.self.now.pli c.args.values.now;
}

pub change_block-right-requires-clause-spot : goal.change_block-right-requires-clause-spot
change_block-right-requires-clause-spot c = c.places.invariant.along (omega arith)

pub change_block-right-requires-clause-row : goal.change_block-right-requires-clause-row
change_block-right-requires-clause-row c =
    let plane = c.args.self.now in
    let is = row_is plane.columns c.places.place c.places.column c.places.row (c.places.invariant.along (omega arith)) in
    let below = row_below (block_columns plane.geom.now plane.pli) (block_rows plane.geom.now plane.pli) c.places.place (omega arith) in
    omega (arith, is, rw (← plane.is_plane.columns_are) at below)

pub next-next_column-requires : goal.next-next_column-requires
next-next_column-requires c = omega (arith, row_low c.args.self.now.columns c.places.place c.places.column c.places.row (c.places.invariant.along (omega arith)))

pub places-preserved : goal.places-preserved
places-preserved c =
    let plane = c.args.self.now in
    let s = plane.geom.now in
    let w = block_columns s plane.pli in
    let now = blocks_of plane c.places.values in
    let long = plane_long s plane.flags.now plane.kinds.now c.places.values plane.pli in
    let old = blocks_of plane c.args.values.now in
    let old_long = plane_long s plane.flags.now plane.kinds.now c.args.values.now plane.pli in
    let all = by_new (value_by c.args.change) w [] old in
    record {
      blocks = by_new_more (value_by c.args.change) w c.places.place now (blocks_of plane c.change_block-right.new.values) all (omega arith) c.change_block-right.ensures.replaces.blocks c.places.invariant.blocks;
      along = λ _. c.next-next_column.ensures.along c.places.place (c.places.invariant.along (omega arith));
      ahead = ahead_more now (blocks_of plane c.change_block-right.new.values) old c.places.place (changed (value_by c.args.change) w (take c.places.place now) (get_or now c.places.place None)) c.change_block-right.ensures.replaces.blocks c.places.invariant.ahead;
      short = short_more now old c.places.place (omega arith) c.places.invariant.ahead c.change_block-right.ensures.replaces.short c.places.invariant.short;
      carried = c.next-next_column.ensures.carried (blocks_of plane c.change_block-right.new.values) c.change_block-right.ensures.carried;
      lasts = λ kind h.
          c.keep_last.ensures kind h
          ∙ ap (λ block. unwrap_or (counted kind block) (get_or c.places.lasts kind (pos 0))) c.change_block-right.ensures.left
          ∙ ap (unwrap_or (counted kind (get_or (blocks_of plane c.change_block-right.new.values) c.places.place None))) (c.places.invariant.lasts kind h)
          ∙ sym (last_changed kind c.places.place now (blocks_of plane c.change_block-right.new.values) (changed (value_by c.args.change) w (take c.places.place now) (get_or now c.places.place None)) c.change_block-right.ensures.replaces.blocks (omega arith));
      rest = changes_in_more s plane.flags.now plane.kinds.now plane.pli c.args.values.now c.places.values c.change_block-right.new.values c.places.invariant.rest c.change_block-right.ensures.replaces.rest;
    }

pub returns : goal.returns
returns c =
    let plane = c.args.self.now in
    let w = block_columns plane.geom.now plane.pli in
    let now = blocks_of plane c.places.values in
    let long = plane_long plane.geom.now plane.flags.now plane.kinds.now c.places.values plane.pli in
    let old = blocks_of plane c.args.values.now in
    let old_long = plane_long plane.geom.now plane.flags.now plane.kinds.now c.args.values.now plane.pli in
    let all = by_new (value_by c.args.change) w [] old in
    let all_taken = take_all c.places.place old (omega arith) in
    record {
      blocks = by_new_all (value_by c.args.change) w c.places.place now all (omega arith) c.places.invariant.blocks;
      short = rw all_taken at c.places.invariant.short;
      rest = c.places.invariant.rest;
    }
