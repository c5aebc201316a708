use Rattle.std.proofs.Common.{◌∙◌, ap, ◌++◌, append_assoc, arith, ◌*◌, ◌<◌, map}
use Rattle.std.proofs.Math.Nat.{mul-le-mul_right}
use Rattle.std.proofs.lemmas.List.Elements.{All-get_or}
use Rattle.vid_geom.specs.Squares.{moved}
use Rattle.vid_geom.specs.Views.{cell_of, grid_of}
use Rattle.vid_geom.proofs.TableLemmas.{square_more, square_all}
use Rattle.vid_geom.proofs.tables.push_square.Goals as goal

pub overflow_add-cell : goal.overflow_add-cell
overflow_add-cell c =
    let small = All-get_or (λ step. (step.col < 4) × (step.row < 4)) c.path-path.result.now c.loop-step.step-index (record { col = 0; row = 0 }) (omega arith) c.path-path.ensures.small in
    omega (arith, small.0, mul-le-mul_right c.args.col c.side.ensures.small)

pub overflow_add-cell-in-loop-step : goal.overflow_add-cell-in-loop-step
overflow_add-cell-in-loop-step c =
    let small = All-get_or (λ step. (step.col < 4) × (step.row < 4)) c.path-path.result.now c.loop-step.step-index (record { col = 0; row = 0 }) (omega arith) c.path-path.ensures.small in
    omega (arith, small.1, mul-le-mul_right c.args.row c.side-2.ensures.small)

pub loop-step-preserved : goal.loop-step-preserved
unfolding moved
loop-step-preserved c =
    rw (square_more (grid_of c.args.grid) (c.side.result * c.args.col) (c.side-2.result * c.args.row) cell_of c.path-path.result.now c.loop-step.step-index (record { col = 0; row = 0 }) (omega arith), ← append_assoc, ← c.loop-step.invariant)
    c.in_ok-push_inside.ensures

pub returns : goal.returns
returns c = c.loop-step.invariant ∙ ap (λ l. map cell_of c.args.out.now.items ++ l) (square_all (grid_of c.args.grid) c.args.col c.args.row _ _ cell_of c.path-path.result.now c.loop-step.step-index (omega arith) c.path-path.ensures.value (ap (λ n. n * c.args.col) c.side.ensures.value) (ap (λ n. n * c.args.row) c.side-2.ensures.value))
