use Rattle.std.proofs.Common.{◌<◌, ◌∙◌, length, arith}
use Rattle.std.proofs.lemmas.List.{length-set}
use Rattle.vid_geom.specs.Squares.{cell, cells}
use Rattle.vid_geom.specs.Views.{cell_of, grid_of}
use Rattle.vid_geom.proofs.ListLemmas.{length_as, at_as}
use Rattle.vid_geom.proofs.OrderLemmas.{length-cells}
use Rattle.vid_geom.proofs.TableLemmas.{raster_below, places_more}
use Rattle.vid_geom.proofs.tables.places_of.Goals as goal

pub overflow_cast-place : goal.overflow_cast-place
overflow_cast-place c = omega (arith, length_as cell_of _ _ c.requires.order, length-cells (grid_of c.args.grid))

pub overflow_mul-cell : goal.overflow_mul-cell
overflow_mul-cell c =
    let l : c.loop-place.place < length (cells (grid_of c.args.grid)) = omega (arith, length_as cell_of _ _ c.requires.order) in
    let here = at_as cell_of c.args.order.now (cells (grid_of c.args.grid)) c.loop-place.place (record { col = 0; row = 0 }) (cell 0 0) c.requires.order l in
    omega (arith, rw here at (raster_below (grid_of c.args.grid) c.loop-place.place l))

pub overflow_add-cell : goal.overflow_add-cell
overflow_add-cell c =
    let l : c.loop-place.place < length (cells (grid_of c.args.grid)) = omega (arith, length_as cell_of _ _ c.requires.order) in
    let here = at_as cell_of c.args.order.now (cells (grid_of c.args.grid)) c.loop-place.place (record { col = 0; row = 0 }) (cell 0 0) c.requires.order l in
    omega (arith, rw here at (raster_below (grid_of c.args.grid) c.loop-place.place l))

pub index_mut-requires : goal.index_mut-requires
index_mut-requires c =
    let l : c.loop-place.place < length (cells (grid_of c.args.grid)) = omega (arith, length_as cell_of _ _ c.requires.order) in
    let here = at_as cell_of c.args.order.now (cells (grid_of c.args.grid)) c.loop-place.place (record { col = 0; row = 0 }) (cell 0 0) c.requires.order l in
    omega (arith, rw here at (raster_below (grid_of c.args.grid) c.loop-place.place l), c.loop-place.invariant.0)

pub loop-place-preserved : goal.loop-place-preserved
loop-place-preserved c =
    let g = grid_of c.args.grid in
    let l : c.loop-place.place < length (cells g) = omega (arith, length_as cell_of _ _ c.requires.order) in
    let here = at_as cell_of c.args.order.now (cells g) c.loop-place.place (record { col = 0; row = 0 }) (cell 0 0) c.requires.order l in
    rw c.requires.order (length-set c.loop-place.places.items _ c.loop-place.place ∙ c.loop-place.invariant.0, rw here at (places_more g c.loop-place.places.items c.loop-place.place l c.loop-place.invariant.0 (rw c.requires.order at c.loop-place.invariant.1)))
