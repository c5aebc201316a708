use Rattle.std.proofs.Common.{◌≡◌, ◌++◌, map, filter, take}
use Rattle.vid_geom.specs.Squares.{inside, moved}
use Rattle.vid_geom.specs.Views.{cell_of, grid_of}
use Rattle.vid_geom.proofs.tables.push_square.Given as goal

abbrev pub invariant-loop-step : goal.invariant-loop-step
invariant-loop-step l = map cell_of l.out.items ≡ map cell_of l.fn.out.items ++ filter (inside (grid_of l.grid)) (map (λ step. moved l.right l.up (cell_of step)) (take l.step-index l.path))
