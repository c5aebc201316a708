use Rattle.std.proofs.Common.{◌≡◌, ◌++◌, take}
use Rattle.vid_geom.specs.CodedOrder.{ranges_from}
use Rattle.vid_geom.specs.Layout.{AreSome}
use Rattle.vid_geom.specs.Squares.{squares}
use Rattle.vid_geom.specs.Views.{grid_of}
use Rattle.vid_geom.proofs.tables.push_ranges.Given as goal

abbrev pub invariant-loop-square : goal.invariant-loop-square
invariant-loop-square l =
    (l.out.items ≡ l.fn.out.items ++ take l.square (ranges_from l.from (squares (grid_of l.grid)))) × (AreSome l.fn.out.items → AreSome l.out.items)
