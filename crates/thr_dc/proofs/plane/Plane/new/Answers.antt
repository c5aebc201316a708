use Rattle.std.proofs.Common.{arith}
use Rattle.vid_geom.specs.CodedOrder.{block_grid}
use Rattle.vid_geom.specs.Tables.{IsSmall}
use Rattle.vid_geom.proofs.SizeLemmas.{block_grid_small}
use Rattle.thr_dc.proofs.plane.Plane.new.Goals as goal

pub overflow_mul-result : goal.overflow_mul-result
overflow_mul-result c =
    let small : IsSmall (block_grid c.args.geom.now c.args.pli) = block_grid_small c.args.geom.now c.args.pli in
    rw (c.width-columns.ensures, c.height.ensures, c.shape-shape.ensures) (omega (arith, small.2))
