use Rattle.std.proofs.Common.{◌≡◌, ◌∙◌, ◌<◌, ◌++◌, [], ℕ, Some, slice_get, get_or, length, map, refl, sym, rules, arith}
use Rattle.std.proofs.lemmas.List.{length-map}
use Rattle.std.proofs.lemmas.Option.{slice_get-get_or}
use Rattle.std.proofs.lemmas.Result.{err_from_is_err_and}
use Rattle.vid_geom.specs.CodedOrder.{order_of}
use Rattle.vid_geom.specs.MacroBlocks.{Area, IsMacroBlock, macro_blocks}
use Rattle.thr_modes.specs.Placing.{put_motion}
use Rattle.thr_modes.specs.LumaFlags.{macro_flags}
use Rattle.thr_modes.specs.Vectors.{offset_of}
use Rattle.thr_modes.specs.Views.{vector_form, memory_of, motion_of}
use Rattle.thr_modes.proofs.AreaLemmas.{few_chroma, numbers_are, sizes_at}
use Rattle.thr_modes.proofs.FoldLemmas.{motions_first, motions_more, motions_fault, motions_done}
use Rattle.thr_modes.proofs.LumaLemmas.{All-left, are_luma, luma_flags_at}
use Rattle.thr_modes.proofs.vectors.read_coded_vectors.Goals as goal

pub macro_blocks-init : goal.macro_blocks-init
macro_blocks-init c =
    let s = c.args.geom.now in
    let first = motions_first (vector_form c.args.coding) s c.args.flags.now c.args.modes.now (map offset_of c.args.vectors.now) c.args.r.now.left (length-map c.args.vectors.now offset_of ∙ c.requires.vectors) c.requires.modes in
    record { read = rw c.empty-remembered.ensures first; end = refl }

pub returns-in_err-motion-clause-value : goal.returns-in_err-motion-clause-value
returns-in_err-motion-clause-value c =
    let s = c.args.geom.now in
    let m = c.macro_blocks.m in
    let p = err_from_is_err_and c.from_residual.result c.from_residual.ensures.1 in
    let mode : slice_get c.args.modes.now m ≡ Some (get_or c.args.modes.now m 0) = slice_get-get_or c.args.modes.now m 0 (omega (arith, c.requires.modes)) in
    let read = rw c.shape-pf.ensures at c.in_err-motion.ensures.value in
    let luma : slice_get (macro_flags s c.args.flags.now) m ≡ Some c.flags_at-luma.result = rw c.flags_at-luma.ensures (luma_flags_at s c.args.flags.now m c.macro_block-numbers.result.luma (are_luma s m c.macro_block-numbers.result c.macro_block-numbers.ensures.value)) in
    rw (p.1, p.2)
    (sym c.macro_blocks.invariant.read
    ∙ motions_fault (vector_form c.args.coding) s c.args.modes.now (macro_flags s c.args.flags.now) (macro_blocks s) (map offset_of c.macro_blocks.vectors) m (get_or c.args.modes.now m 0) c.flags_at-luma.result (memory_of c.macro_blocks.remembered) c.macro_blocks.r.left c.in_err-motion.field-0.0 mode luma read)

pub macro_blocks-preserved : goal.macro_blocks-preserved
unfolding put_motion
macro_blocks-preserved c =
    let s = c.args.geom.now in
    let m = c.macro_blocks.m in
    let none : Area = record { luma = []; cb = []; cr = [] } in
    let area : Area = get_or (macro_blocks s) m none in
    let at : slice_get (macro_blocks s) m ≡ Some area = slice_get-get_or (macro_blocks s) m none (omega arith) in
    let mode : slice_get c.args.modes.now m ≡ Some (get_or c.args.modes.now m 0) = slice_get-get_or c.args.modes.now m 0 (omega (arith, c.requires.modes)) in
    let read = rw c.shape-pf.ensures at c.in_ok-motion.ensures.value in
    let numbers = c.macro_block-numbers.result in
    let luma : slice_get (macro_flags s c.args.flags.now) m ≡ Some c.flags_at-luma.result = rw c.flags_at-luma.ensures (luma_flags_at s c.args.flags.now m numbers.luma (are_luma s m numbers c.macro_block-numbers.ensures.value)) in
    let is : IsMacroBlock s area numbers = rw at at c.macro_block-numbers.ensures.value in
    let motion = motion_of s.pf c.in_ok-motion.motion in
    record {
      read = rw (c.put_motion.ensures s.pf c.macro_block-numbers.ensures.count, numbers_are s area numbers (sizes_at s m area at) is)
          (motions_more (vector_form c.args.coding) s c.args.modes.now (macro_flags s c.args.flags.now) (macro_blocks s) (map offset_of c.macro_blocks.vectors) m (get_or c.args.modes.now m 0) c.flags_at-luma.result area (memory_of c.macro_blocks.remembered) (memory_of c.in_ok-motion.next) motion c.macro_blocks.r.left c.read_motion.new.r.left mode luma at read
          ∙ c.macro_blocks.invariant.read);
      end = search rules;
    }

pub returns-clause-value : goal.returns-clause-value
returns-clause-value c =
    let s = c.args.geom.now in
    sym c.macro_blocks.invariant.read
    ∙ motions_done (vector_form c.args.coding) s c.args.modes.now (macro_flags s c.args.flags.now) (macro_blocks s) (map offset_of c.macro_blocks.vectors) c.macro_blocks.m (memory_of c.macro_blocks.remembered) c.macro_blocks.r.left (omega (arith, c.requires.modes)) (omega arith)

pub flags_at-luma-requires : goal.flags_at-luma-requires
flags_at-luma-requires c =
    let numbers = c.macro_block-numbers.result in
    let P : ℕ → Type 0 = λ place. place < length (order_of c.args.geom.now) in
    rw c.requires.flags (All-left P numbers.luma numbers.cb (All-left P (numbers.luma ++ numbers.cb) numbers.cr c.macro_block-numbers.ensures.below))

pub put_motion-requires-clause-below : goal.put_motion-requires-clause-below
put_motion-requires-clause-below c =
    let long : length c.macro_blocks.vectors ≡ length (order_of c.args.geom.now) = c.macro_blocks.auto.vectors ∙ c.requires.vectors in
    rw long c.macro_block-numbers.ensures.below

pub put_motion-requires-clause-count : goal.put_motion-requires-clause-count
put_motion-requires-clause-count c = omega (arith, c.macro_block-numbers.ensures.count, few_chroma c.args.geom.now.pf)
