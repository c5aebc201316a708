use Rattle.std.proofs.Common.{◌≡◌, ap, map, arith}
use Rattle.vid_geom.specs.Squares.{joined, square_row, squares_up, squares, cells}
use Rattle.vid_geom.specs.Views.{cell_of, grid_of}
use Rattle.vid_geom.proofs.TableLemmas.{rows_more}
use Rattle.vid_geom.proofs.tables.cells_of.Goals as goal

pub loop-row-init : goal.loop-row-init
unfolding joined
loop-row-init c = ap (map cell_of) c.in_ok-order.ensures.items

pub loop-row-preserved : goal.loop-row-preserved
loop-row-preserved c = rw (rows_more (square_row (grid_of c.args.grid)) c.loop-row.row, ← c.loop-row.invariant) c.in_ok-push_row.ensures

pub returns : goal.returns
unfolding cells squares
returns c = let e : c.loop-row.row ≡ squares_up (grid_of c.args.grid) = omega (arith, c.squares_up-row-end.ensures) in rw e at c.loop-row.invariant
