use Rattle.vid_geom.specs.CodedOrder.{block_of}
use Rattle.vid_geom.specs.Views.{cell_of}
use Rattle.vid_geom.proofs.OrderLemmas.{order_at_place, block_at, place_at}
use Rattle.vid_geom.proofs.geom.Geom.at.Goals as goal

pub returns-clause-value : goal.returns-clause-value
unfolding block_of
returns-clause-value c =
    order_at_place c.args.self.now c.plane_at-pli.result c.args.place c.blocks_before.result (cell_of c.cell-cell.result) c.plane_at-pli.ensures.plane c.blocks_before.ensures.value
    (rw c.blocks_before.ensures.value c.plane_at-pli.ensures.within.0) (rw c.plane.ensures at c.cell-cell.ensures)

pub returns-clause-inside : goal.returns-clause-inside
returns-clause-inside c = block_at c.args.self.now c.args.place _ (returns-clause-value c)

pub returns-clause-back : goal.returns-clause-back
returns-clause-back c = place_at c.args.self.now c.args.place _ (returns-clause-value c)
