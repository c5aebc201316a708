use Rattle.std.proofs.Common.{◌≡◌, Some, map, slice_get, arith}
use Rattle.thr_modes.specs.LumaFlags.{macro_flags}
use Rattle.thr_modes.specs.Vectors.{offset_of}
use Rattle.thr_modes.specs.WrittenVectors.{motions_code, macro_vectors}
use Rattle.thr_modes.proofs.LumaLemmas.{luma_flags_at}
use Rattle.thr_modes.proofs.VectorCodes.{luma_vectors_at, motions_code_more, motions_code_all}
use Rattle.thr_modes.proofs.WrittenModes.{memory_more}
use Rattle.thr_modes.proofs.writing.write_motions.Goals as goal

pub macro_blocks-preserved : goal.macro_blocks-preserved
macro_blocks-preserved c =
    let lumas = macro_flags c.args.geom.now c.args.flags.now in
    let motions = macro_vectors c.args.geom.now (map offset_of c.args.vectors.now) in
    let m = c.macro_blocks.m in
    let places = c.luma_places-places.result in
    let luma : slice_get lumas m ≡ Some c.flags_at-luma.result = rw c.flags_at-luma.ensures (luma_flags_at c.args.geom.now c.args.flags.now m places c.luma_places-places.ensures.value) in
    let own : slice_get motions m ≡ Some (map offset_of c.vectors_at.result) = rw c.vectors_at.ensures (luma_vectors_at c.args.geom.now (map offset_of c.args.vectors.now) m places c.luma_places-places.ensures.value) in record {
      written = motions_code_more c.args.modes.now lumas motions m c.flags_at-luma.result (map offset_of c.vectors_at.result) c.args.w.now c.macro_blocks.w c.write_motion.new.w (motions_code c.args.modes.now lumas motions) (omega (arith, c.requires.modes)) luma own c.in_ok-write_motion.ensures.written c.macro_blocks.invariant.written;
      more = memory_more c.args.w.now c.macro_blocks.w c.write_motion.new.w c.macro_blocks.invariant.more (_, c.in_ok-write_motion.ensures.written);
    }

pub returns-clause-written : goal.returns-clause-written
returns-clause-written c =
    let lumas = macro_flags c.args.geom.now c.args.flags.now in
    let motions = macro_vectors c.args.geom.now (map offset_of c.args.vectors.now) in
    motions_code_all c.args.modes.now lumas motions c.macro_blocks.m c.args.w.now c.macro_blocks.w (motions_code c.args.modes.now lumas motions) (omega (arith, c.requires.modes)) c.macro_blocks.invariant.written
