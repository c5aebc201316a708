use Rattle.std.proofs.Common.{◌≡◌, ◌∙◌, refl, ap, sym, arith, rules}
use Rattle.std.specs.List.{fold}
use Rattle.thr_loop.specs.EdgeRule.{edge_filtered}
use Rattle.thr_loop.specs.Filtered.{is_coded}
use Rattle.thr_loop.proofs.OrderLemmas.{rows_edges, rows_edges_none, rows_edges_more, plane_edges_is}
use Rattle.thr_loop.proofs.frame.filter_rows.Goals as goal

pub loop-row-init : goal.loop-row-init
loop-row-init c =
    let blocks = c.args.blocks.now in record {
      so_far = rows_edges_none c.args.limit c.args.plane.now (is_coded blocks.geom.now blocks.flags.now blocks.pli) blocks.columns blocks.rows;
      like = record { same_width = refl; same_height = refl };
      sized = c.requires.sized;
    }

pub loop-row-preserved : goal.loop-row-preserved
loop-row-preserved c =
    let blocks = c.args.blocks.now in record {
      so_far = rows_edges_more c.args.limit c.args.plane.now c.loop-row.plane c.filter_row.new.plane (is_coded blocks.geom.now blocks.flags.now blocks.pli) blocks.columns blocks.rows c.loop-row.row
          c.loop-row.invariant.so_far c.filter_row.ensures.value;
      like = search rules;
      sized = c.filter_row.ensures.sized;
    }

pub returns-clause-value : goal.returns-clause-value
returns-clause-value c =
    let blocks = c.args.blocks.now in
    let coded = is_coded blocks.geom.now blocks.flags.now blocks.pli in
    let e : c.loop-row.row ≡ blocks.rows = omega arith in
    c.loop-row.invariant.so_far
    ∙ ap (λ n. fold (edge_filtered c.args.limit) c.args.plane.now (rows_edges coded blocks.columns blocks.rows n)) e
    ∙ ap (λ es. fold (edge_filtered c.args.limit) c.args.plane.now es) (sym (plane_edges_is coded blocks.columns blocks.rows))
