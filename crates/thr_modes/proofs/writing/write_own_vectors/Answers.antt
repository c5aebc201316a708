use Rattle.std.proofs.Common.{◌≡◌, ◌<◌, length, map, get_or, arith}
use Rattle.std.proofs.lemmas.List.{length-map, get_or-map}
use Rattle.thr_modes.specs.Vectors.{offset_of}
use Rattle.thr_modes.specs.WrittenVectors.{own_codes}
use Rattle.thr_modes.proofs.VectorCodes.{own_more, own_all}
use Rattle.thr_modes.proofs.WrittenModes.{memory_more}
use Rattle.thr_modes.proofs.writing.write_own_vectors.Goals as goal

pub luma-preserved : goal.luma-preserved
luma-preserved c =
    let vectors = map offset_of c.args.vectors in
    let v = get_or c.args.vectors c.luma.b c.index-vectors-b.result in
    let within : c.luma.b < length vectors = omega (arith, length-map c.args.vectors offset_of) in
    let is : get_or vectors c.luma.b (offset_of v) ≡ offset_of v = get_or-map offset_of c.args.vectors c.luma.b c.index-vectors-b.result (offset_of v) (omega arith) in record {
      written = own_more c.args.luma vectors c.luma.b (offset_of v) c.args.w.now c.luma.w c.write_own_vector.new.w (own_codes c.args.luma vectors) (omega arith) within is c.in_ok-write_own_vector.ensures.written c.luma.invariant.written;
      more = memory_more c.args.w.now c.luma.w c.write_own_vector.new.w c.luma.invariant.more (_, c.in_ok-write_own_vector.ensures.written);
    }

pub returns-clause-written : goal.returns-clause-written
returns-clause-written c = own_all c.args.luma (map offset_of c.args.vectors) c.luma.b c.args.w.now c.luma.w (own_codes c.args.luma (map offset_of c.args.vectors)) (omega arith) c.luma.invariant.written
