use Rattle.std.proofs.Common.{◌≡◌, arith, slice_get}
use Rattle.vid_geom.specs.MacroBlocks.{IsMacroBlock, macro_blocks}
use Rattle.thr_frame.proofs.OwnLemmas.{some_and, cr_places}
use Rattle.thr_frame.proofs.rebuild.places_of.Goals as goal

pub returns-else-pli-eq1-clause-value : goal.returns-else-pli-eq1-clause-value
returns-else-pli-eq1-clause-value c =
    let s = c.args.geom.now in
    let numbers = c.macro_block-block.result in
    let found = some_and (slice_get (macro_blocks s) c.args.m) (λ area. IsMacroBlock s area numbers) c.macro_block-block.ensures.value in
    let two : c.args.pli ≡ 2 = omega arith in
    rw (found.1, c.from-count.ensures, two) (cr_places s c.args.m found.0 numbers found.1 found.2)
