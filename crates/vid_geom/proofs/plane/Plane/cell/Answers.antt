use Rattle.std.proofs.Common.{arith}
use Rattle.vid_geom.specs.Squares.{cells}
use Rattle.vid_geom.specs.Views.{cell_of}
use Rattle.vid_geom.proofs.ListLemmas.{length_as, read_as}
use Rattle.vid_geom.proofs.OrderLemmas.{length-cells}
use Rattle.vid_geom.proofs.plane.Plane.cell.Goals as goal

pub index-requires : goal.index-requires
index-requires c =
    let all = rw c.self.view_is at c.self.invariant.ordered in
    omega (arith, length_as cell_of c.self.inside.order.items (cells c.args.self.now) all, length-cells c.args.self.now)

pub returns : goal.returns
returns c =
    let all = rw c.self.view_is at c.self.invariant.ordered in
    read_as cell_of c.self.inside.order.items (cells c.args.self.now) c.args.place _ all (omega (arith, length-cells c.args.self.now)) c.index.ensures
