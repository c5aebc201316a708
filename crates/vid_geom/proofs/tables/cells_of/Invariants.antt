use Rattle.std.proofs.Common.{◌≡◌, map}
use Rattle.std.specs.List.{flat_map, range_with_len}
use Rattle.vid_geom.specs.Squares.{joined, square_row}
use Rattle.vid_geom.specs.Views.{cell_of, grid_of}
use Rattle.vid_geom.proofs.tables.cells_of.Given as goal

abbrev pub invariant-loop-row : goal.invariant-loop-row
invariant-loop-row l = map cell_of l.order.items ≡ joined (flat_map (square_row (grid_of l.grid)) (range_with_len 0 l.row))
