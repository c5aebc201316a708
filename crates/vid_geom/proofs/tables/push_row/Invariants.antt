use Rattle.std.proofs.Common.{◌≡◌, ◌++◌, map}
use Rattle.std.specs.List.{range_with_len}
use Rattle.vid_geom.specs.Squares.{joined, square}
use Rattle.vid_geom.specs.Views.{cell_of, grid_of}
use Rattle.vid_geom.proofs.tables.push_row.Given as goal

abbrev pub invariant-loop-col : goal.invariant-loop-col
invariant-loop-col l = map cell_of l.out.items ≡ map cell_of l.fn.out.items ++ joined (map (λ col. square (grid_of l.grid) col l.row) (range_with_len 0 l.col))
