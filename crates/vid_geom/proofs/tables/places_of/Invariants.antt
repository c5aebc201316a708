use Rattle.std.proofs.Common.{◌≡◌, ℕ, ◌*◌, ◌<◌, length, get_or, map}
use Rattle.vid_geom.specs.Squares.{cell}
use Rattle.vid_geom.specs.Tables.{raster_place}
use Rattle.vid_geom.specs.Views.{cell_of, grid_of}
use Rattle.vid_geom.proofs.tables.places_of.Given as goal

-- the cells before have their places
abbrev pub invariant-loop-place : goal.invariant-loop-place
invariant-loop-place l =
    (length l.places.items ≡ (grid_of l.grid).width * (grid_of l.grid).height) × ((k : ℕ) → k < l.place → get_or l.places.items (raster_place (grid_of l.grid) (get_or (map cell_of l.order) k (cell 0 0))) 0 ≡ k)
