use Rattle.std.proofs.Common.{◌≡◌, ◌∙◌, length, map, slice_get, ap, arith}
use Rattle.std.proofs.lemmas.List.{length-map, length-replicate}
use Rattle.vid_geom.specs.CodedOrder.{order_of}
use Rattle.vid_geom.specs.MacroBlocks.{IsMacroBlock, macro_blocks}
use Rattle.thr_modes.specs.Placing.{put_motion}
use Rattle.thr_modes.specs.Vectors.{offset_of, still}
use Rattle.thr_modes.proofs.AreaLemmas.{numbers_are, sizes_at}
use Rattle.thr_frame.proofs.OwnLemmas.{some_and}
use Rattle.enc_search.specs.Found.{IsFound}
use Rattle.enc_search.specs.Views.{memory_of, refs_of}
use Rattle.enc_search.proofs.ChoiceLemmas.{all_chosen, more_first, none_first}
use Rattle.enc_search.proofs.SearchedLemmas.{all_searched}
use Rattle.enc_search.proofs.choice.fill.Goals as goal

pub macro_blocks-init : goal.macro_blocks-init
macro_blocks-init c =
    let frames = c.args.frames.now in
    rw (c.requires.empty, c.empty-remembered.ensures, c.requires.still) (none_first frames.geom.now (refs_of frames) frames.target.now)

pub put_motion-requires-clause-below : goal.put_motion-requires-clause-below
put_motion-requires-clause-below c =
    let order = order_of c.args.frames.now.geom.now in
    let before : length c.args.vectors.now ≡ length order = omega (arith, length-map c.args.vectors.now offset_of, ap length c.requires.still, length-replicate (length order) still) in
    let long : length c.macro_blocks.vectors ≡ length order = c.macro_blocks.auto.vectors ∙ before in
    rw long c.macro_block.ensures.below

pub macro_blocks-preserved : goal.macro_blocks-preserved
unfolding put_motion
macro_blocks-preserved c =
    let frames = c.args.frames.now in
    let s = frames.geom.now in
    let m = c.macro_blocks.m in
    let mode = c.find-found.result.mode in
    let v = offset_of c.find-found.result.vector in
    let memory = memory_of c.macro_blocks.remembered in
    let numbers = c.macro_block.result in
    let found = some_and (slice_get (macro_blocks s) m) (λ area. IsFound (refs_of frames) frames.target.now memory mode v area.luma) c.find-found.ensures in
    let is : IsMacroBlock s found.0 numbers = rw found.1 at c.macro_block.ensures.value in
    let put = rw (numbers_are s found.0 numbers (sizes_at s m found.0 found.1) is) at (c.put_motion.ensures s.pf c.macro_block.ensures.count) in
    rw c.in_ok-push.ensures.items
    (more_first s (refs_of frames) frames.target.now c.macro_blocks.modes.items memory (memory_of c.behind-remembered.result) (map offset_of c.macro_blocks.vectors) (map offset_of c.put_motion.new.vectors) m found.0 mode v found.1 found.2
    put c.behind-remembered.ensures c.macro_blocks.invariant)

pub returns-clause-chosen : goal.returns-clause-chosen
returns-clause-chosen c =
    let frames = c.args.frames.now in
    let done : c.macro_blocks.m ≡ length (macro_blocks frames.geom.now) = omega arith in
    all_chosen frames.geom.now (refs_of frames) frames.target.now c.macro_blocks.modes.items (memory_of c.macro_blocks.remembered) (map offset_of c.macro_blocks.vectors) (rw done at c.macro_blocks.invariant)

pub returns-clause-searched : goal.returns-clause-searched
returns-clause-searched c =
    let frames = c.args.frames.now in
    let done : c.macro_blocks.m ≡ length (macro_blocks frames.geom.now) = omega arith in
    all_searched frames.geom.now (refs_of frames) frames.target.now c.macro_blocks.modes.items (memory_of c.macro_blocks.remembered) (map offset_of c.macro_blocks.vectors) (rw done at c.macro_blocks.invariant)
