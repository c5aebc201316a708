use Rattle.std.proofs.Common.{◌≡◌, ◌∙◌, map, ap, arith}
use Rattle.vid_geom.specs.Squares.{cells}
use Rattle.vid_geom.specs.MacroBlocks.{macro_grid}
use Rattle.vid_geom.specs.Views.{cell_of}
use Rattle.vid_geom.proofs.ListLemmas.{length_as, read_as}
use Rattle.vid_geom.proofs.MacroBlockLemmas.{macro_cells_below, macro_cell_inside}
use Rattle.vid_geom.proofs.geom.Geom.macro_cell.Goals as goal

pub index-requires : goal.index-requires
index-requires c =
    let all : map cell_of c.self.inside.macro_blocks.items ≡ cells (macro_grid c.args.self.now) = c.self.invariant.macro_blocks_are ∙ ap (λ s. cells (macro_grid s)) c.self.view_is in
    omega (arith, length_as cell_of _ _ all, macro_cells_below c.args.self.now c.args.m c.requires)

pub returns-clause-value : goal.returns-clause-value
returns-clause-value c =
    let all : map cell_of c.self.inside.macro_blocks.items ≡ cells (macro_grid c.args.self.now) = c.self.invariant.macro_blocks_are ∙ ap (λ s. cells (macro_grid s)) c.self.view_is in
    read_as cell_of c.self.inside.macro_blocks.items _ c.args.m c.index.result.now all (macro_cells_below c.args.self.now c.args.m c.requires) c.index.ensures

pub returns-clause-column : goal.returns-clause-column
returns-clause-column c = (macro_cell_inside c.args.self.now c.args.m (cell_of c.index.result.now) (returns-clause-value c)).0

pub returns-clause-row : goal.returns-clause-row
returns-clause-row c = (macro_cell_inside c.args.self.now c.args.m (cell_of c.index.result.now) (returns-clause-value c)).1
