-- What the cells, walks and grids of the code are (own).
use Rattle.vid_geom.specs.declared.grid.Cell.{Cell as CodeCell}
use Rattle.vid_geom.specs.declared.grid.Grid.{Grid as CodeGrid}
use Rattle.vid_geom.specs.declared.grid.Walk.{Walk as CodeWalk}
use Rattle.vid_geom.specs.declared.grid.Walk.TheVariants.{Hilbert as HilbertWalk, Clockwise as ClockwiseWalk}
use Rattle.vid_geom.specs.Squares.{Cell, Grid, Walk, Hilbert, Clockwise, cell}

abbrev pub cell_of : CodeCell → Cell
cell_of c = cell c.col c.row

abbrev pub walk_of : CodeWalk → Walk
walk_of HilbertWalk = Hilbert
walk_of ClockwiseWalk = Clockwise

abbrev pub grid_of : CodeGrid → Grid
grid_of g = record { walk = walk_of g.walk; width = g.width; height = g.height }
