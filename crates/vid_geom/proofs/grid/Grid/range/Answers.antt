use Rattle.std.proofs.Common.{arith}
use Rattle.vid_geom.specs.Views.{grid_of}
use Rattle.vid_geom.proofs.CellLemmas.{square_number, in_grid_at, range_at}
use Rattle.vid_geom.proofs.grid.Grid.range.Goals as goal

pub nonzero_rem-right : goal.nonzero_rem-right
nonzero_rem-right c = rw c.squares_across-across.ensures (square_number (grid_of c.args.self) c.args.square c.requires.square).some

pub overflow_mul-right : goal.overflow_mul-right
overflow_mul-right c = rw (c.side-side.ensures.value, c.squares_across-across.ensures) (omega (arith, (in_grid_at (grid_of c.args.self) c.args.square c.requires.square).right))

pub nonzero_div-up : goal.nonzero_div-up
nonzero_div-up c = rw c.squares_across-across.ensures (square_number (grid_of c.args.self) c.args.square c.requires.square).some

pub overflow_mul-up : goal.overflow_mul-up
overflow_mul-up c = rw (c.side-side.ensures.value, c.squares_across-across.ensures) (omega (arith, (in_grid_at (grid_of c.args.self) c.args.square c.requires.square).up))

pub overflow_sub-self : goal.overflow_sub-self
overflow_sub-self c = rw (c.side-side.ensures.value, c.squares_across-across.ensures) (omega (arith, (in_grid_at (grid_of c.args.self) c.args.square c.requires.square).right))

pub overflow_sub-self-2 : goal.overflow_sub-self-2
overflow_sub-self-2 c = rw (c.side-side.ensures.value, c.squares_across-across.ensures) (omega (arith, (in_grid_at (grid_of c.args.self) c.args.square c.requires.square).up))

pub overflow_mul-first : goal.overflow_mul-first
overflow_mul-first c = rw (c.side-side.ensures.value, c.squares_across-across.ensures) (omega (arith, (in_grid_at (grid_of c.args.self) c.args.square c.requires.square).past))

pub overflow_add-first : goal.overflow_add-first
overflow_add-first c = rw (c.side-side.ensures.value, c.squares_across-across.ensures) (omega (arith, (in_grid_at (grid_of c.args.self) c.args.square c.requires.square).past))

pub overflow_mul-first-2 : goal.overflow_mul-first-2
overflow_mul-first-2 c = rw (c.min-high.ensures, c.side-side.ensures.value, c.squares_across-across.ensures) (omega (arith, (in_grid_at (grid_of c.args.self) c.args.square c.requires.square).past))

pub overflow_add-first-2 : goal.overflow_add-first-2
overflow_add-first-2 c = rw (c.min-high.ensures, c.side-side.ensures.value, c.squares_across-across.ensures) (omega (arith, (in_grid_at (grid_of c.args.self) c.args.square c.requires.square).past))

pub overflow_add-result : goal.overflow_add-result
overflow_add-result c = rw (c.min-wide.ensures, c.min-high.ensures, c.side-side.ensures.value, c.squares_across-across.ensures) (omega (arith, (in_grid_at (grid_of c.args.self) c.args.square c.requires.square).past))

pub returns-clause-value : goal.returns-clause-value
returns-clause-value c = rw (c.min-wide.ensures, c.min-high.ensures, c.side-side.ensures.value, c.squares_across-across.ensures) (range_at (grid_of c.args.self) c.args.from c.args.square c.requires.square)

pub returns-clause-some : goal.returns-clause-some
returns-clause-some c = rw (c.min-wide.ensures, c.min-high.ensures, c.side-side.ensures.value, c.squares_across-across.ensures) (omega (arith, (in_grid_at (grid_of c.args.self) c.args.square c.requires.square).some))
