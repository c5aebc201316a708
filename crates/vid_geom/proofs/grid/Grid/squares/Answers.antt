use Rattle.std.proofs.Common.{◌∙◌, sym}
use Rattle.std.proofs.Math.Nat.{mul_comm}
use Rattle.vid_geom.specs.Squares.{squares_across, squares_up}
use Rattle.vid_geom.specs.Views.{grid_of}
use Rattle.vid_geom.proofs.CellLemmas.{length-squares}
use Rattle.vid_geom.proofs.grid.Grid.squares.Goals as goal

pub returns-clause-value : goal.returns-clause-value
returns-clause-value c = rw (c.squares_across.ensures, c.squares_up.ensures) (mul_comm (squares_across (grid_of c.args.self)) (squares_up (grid_of c.args.self)) ∙ sym (length-squares (grid_of c.args.self)))
