use Rattle.std.proofs.Common.{◌∙◌, ◌+◌, ap, sym}
use Rattle.std.specs.List.{fold}
use Rattle.vid_geom.specs.Squares.{cell}
use Rattle.thr_loop.specs.EdgeRule.{edge_filtered}
use Rattle.thr_loop.specs.Edges.{edge_if, left_edge, lower_edge}
use Rattle.thr_loop.specs.Filtered.{is_coded}
use Rattle.thr_loop.proofs.OrderLemmas.{uncoded_block, coded_block}
use Rattle.thr_loop.proofs.frame.filter_block.Goals as goal

pub returns-then-not-is_coded-clause-value : goal.returns-then-not-is_coded-clause-value
returns-then-not-is_coded-clause-value c =
    let blocks = c.args.blocks.now in
    uncoded_block c.args.limit c.args.plane.now (is_coded blocks.geom.now blocks.flags.now blocks.pli) blocks.columns blocks.rows (cell c.args.col c.args.row) (sym c.is_coded.ensures ∙ c.if-not-is_coded.true)

pub returns-clause-value : goal.returns-clause-value
returns-clause-value c =
    let blocks = c.args.blocks.now in
    let f = edge_filtered c.args.limit in
    let right = cell (c.args.col + 1) c.args.row in
    let upper = cell c.args.col (c.args.row + 1) in
    coded_block c.args.limit c.args.plane.now c.filter_left_if.new.plane c.filter_lower_if.new.plane c.filter_left_if-2.new.plane c.filter_lower_if-2.new.plane
    (is_coded blocks.geom.now blocks.flags.now blocks.pli) blocks.columns blocks.rows c.args.col c.args.row (sym c.is_coded.ensures ∙ c.if-not-is_coded.false)
    c.filter_left_if.ensures.value c.filter_lower_if.ensures.value
    (c.filter_left_if-2.ensures.value ∙ ap (λ t. fold f c.filter_lower_if.new.plane (edge_if t (left_edge right))) c.is_uncoded.ensures)
    (c.filter_lower_if-2.ensures.value ∙ ap (λ t. fold f c.filter_left_if-2.new.plane (edge_if t (lower_edge upper))) c.is_uncoded-2.ensures)
