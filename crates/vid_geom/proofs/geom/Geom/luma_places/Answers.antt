use Rattle.std.proofs.Common.{◌≡◌, ◌∙◌, map, Some, slice_get, refl, arith}
use Rattle.std.proofs.lemmas.Option.{slice_get-map}
use Rattle.vid_geom.specs.Squares.{cells}
use Rattle.vid_geom.specs.MacroBlocks.{area_at, macro_blocks, macro_grid}
use Rattle.vid_geom.specs.Views.{cell_of}
use Rattle.vid_geom.proofs.MacroBlockLemmas.{luma_filled, luma_in_plane, filled_below}
use Rattle.vid_geom.proofs.geom.Geom.luma_places.Goals as goal

pub returns-clause-value : goal.returns-clause-value
unfolding macro_blocks area_at
returns-clause-value c =
    let s = c.args.self.now in
    let at : slice_get (map (area_at s.pf) (cells (macro_grid s))) c.args.m ≡ Some (area_at s.pf (cell_of c.macro_cell.result)) = slice_get-map (area_at s.pf) (cells (macro_grid s)) c.args.m ∙ rw c.macro_cell.ensures.value refl in
    rw at (c.places_in.ensures ∙ luma_filled s (cell_of c.macro_cell.result))

pub returns-clause-luma : goal.returns-clause-luma
returns-clause-luma c = rw c.places_in.ensures (luma_in_plane c.args.self.now (cell_of c.macro_cell.result) c.macro_cell.ensures.column c.macro_cell.ensures.row)

pub returns-clause-below : goal.returns-clause-below
returns-clause-below c = rw c.places_in.ensures (filled_below c.args.self.now 0 (cell_of c.macro_cell.result) (omega arith) c.macro_cell.ensures.column c.macro_cell.ensures.row)
