use Rattle.std.proofs.Common.{refl, rules}
use Rattle.thr_loop.specs.Filtered.{is_coded}
use Rattle.thr_loop.proofs.OrderLemmas.{row_edges_none, row_edges_more}
use Rattle.thr_loop.proofs.frame.filter_row.Goals as goal

pub loop-col-init : goal.loop-col-init
loop-col-init c =
    let blocks = c.args.blocks.now in record {
      so_far = row_edges_none c.args.limit c.args.plane.now (is_coded blocks.geom.now blocks.flags.now blocks.pli) blocks.columns blocks.rows c.args.row;
      like = record { same_width = refl; same_height = refl };
      sized = c.requires.sized;
    }

pub loop-col-preserved : goal.loop-col-preserved
loop-col-preserved c =
    let blocks = c.args.blocks.now in record {
      so_far = row_edges_more c.args.limit c.args.plane.now c.loop-col.plane c.filter_block.new.plane (is_coded blocks.geom.now blocks.flags.now blocks.pli) blocks.columns blocks.rows c.loop-col.col c.args.row
          c.loop-col.invariant.so_far c.filter_block.ensures.value;
      like = search rules;
      sized = c.filter_block.ensures.sized;
    }
