use Rattle.std.proofs.Common.{◌≡◌, sym, append_assoc, append-nil, arith}
use Rattle.vid_geom.specs.Squares.{joined, square, squares_across, square_row}
use Rattle.vid_geom.specs.Views.{grid_of}
use Rattle.vid_geom.proofs.TableLemmas.{joined_more}
use Rattle.vid_geom.proofs.tables.push_row.Goals as goal

pub loop-col-init : goal.loop-col-init
unfolding joined
loop-col-init c = sym (append-nil _)

pub loop-col-preserved : goal.loop-col-preserved
loop-col-preserved c = rw (joined_more (λ col. square (grid_of c.args.grid) col c.args.row) c.loop-col.col, ← append_assoc, ← c.loop-col.invariant) c.in_ok-push_square.ensures

pub returns : goal.returns
unfolding square_row
returns c = let e : c.loop-col.col ≡ squares_across (grid_of c.args.grid) = omega (arith, c.squares_across-col-end.ensures) in rw e at c.loop-col.invariant
