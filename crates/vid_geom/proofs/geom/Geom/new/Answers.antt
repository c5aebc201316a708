use Rattle.std.proofs.Common.{◌≡◌, ◌∙◌, ap, subst, sym}
use Rattle.vid_geom.specs.CodedOrder.{block_grid}
use Rattle.vid_geom.specs.Squares.{cells}
use Rattle.vid_geom.specs.Tables.{IsSmall}
use Rattle.vid_geom.proofs.SuperblockLemmas.{ranges_by_grids}
use Rattle.vid_geom.proofs.SizeLemmas.{block_grid_small}
use Rattle.vid_geom.proofs.geom.Geom.new.Goals as goal

pub new-requires : goal.new-requires
new-requires c = subst IsSmall (sym c.block_grid.ensures) (block_grid_small c.args.shape 0)

pub invariant_of-result : goal.invariant_of-result
invariant_of-result c =
    let s = c.args.shape in
    let luma : c.in_ok-luma.luma ≡ block_grid s 0 = c.in_ok-luma.ensures ∙ c.block_grid.ensures in
    let chroma : c.in_ok-chroma.chroma ≡ block_grid s 1 = c.in_ok-chroma.ensures ∙ c.block_grid-2.ensures in
    record {
      luma_is = luma;
      chroma_is = chroma;
      superblocks_are = c.in_ok-superblocks.ensures.value ∙ ranges_by_grids s _ _ (c.grid.ensures.value ∙ luma) (c.grid-2.ensures.value ∙ chroma);
      some = c.in_ok-superblocks.ensures.some;
      macro_blocks_are = c.in_ok-macro_blocks.ensures ∙ ap cells c.macro_grid.ensures;
    }
