use Rattle.std.proofs.Common.{◌<◌, ◌+◌, ◌*◌, length, map, subst, sym, arith}
use Rattle.std.proofs.lemmas.List.{get_or_read}
use Rattle.std.proofs.lemmas.Nat.{mul-add-lt}
use Rattle.std.proofs.lemmas.Option.{slice_get_within}
use Rattle.vid_geom.specs.Squares.{cells}
use Rattle.vid_geom.specs.Tables.{IsSmall}
use Rattle.vid_geom.specs.Views.{cell_of, grid_of}
use Rattle.vid_geom.proofs.OrderLemmas.{length-cells}
use Rattle.vid_geom.proofs.TableLemmas.{place_found}
use Rattle.vid_geom.proofs.plane.Plane.place.Goals as goal

pub returns-clause-value : goal.returns-clause-value
returns-clause-value c =
    let g = grid_of c.self.inside.grid in
    let column : c.args.cell.col < g.width = subst (λ g. c.args.cell.col < g.width) (sym c.self.view_is) c.requires.column in
    let row : c.args.cell.row < g.height = subst (λ g. c.args.cell.row < g.height) (sym c.self.view_is) c.requires.row in
    let within : c.args.cell.row * g.width + c.args.cell.col < length c.self.inside.places.items = omega (arith, mul-add-lt c.args.cell.row g.width c.args.cell.col g.height row column, c.self.invariant.whole) in
    rw (← c.self.view_is, get_or_read c.self.inside.places.items (c.args.cell.row * g.width + c.args.cell.col) c.index.result.now within c.index.ensures 0)
    (place_found g (map cell_of c.self.inside.order.items) c.self.inside.places.items c.self.invariant (cell_of c.args.cell) column row)

pub returns-clause-small : goal.returns-clause-small
returns-clause-small c =
    let at = returns-clause-value c in
    omega (arith, slice_get_within (cells c.args.self.now) c.index.result.now (cell_of c.args.cell) at, length-cells c.args.self.now, (subst IsSmall c.self.view_is c.self.invariant.small).2)
