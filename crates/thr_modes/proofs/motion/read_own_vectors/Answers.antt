use Rattle.std.proofs.Common.{rules, ◌≡◌, ◌∙◌, ◌<◌, ◌≤◌, false, Some, slice_get, get_or, length, take, map, sym, length-set, arith}
use Rattle.std.proofs.lemmas.List.{map-set, length-map}
use Rattle.std.proofs.lemmas.Option.{slice_get-get_or}
use Rattle.std.proofs.lemmas.Result.{err_from_is_err_and}
use Rattle.thr_modes.specs.Vectors.{offset_of}
use Rattle.thr_modes.specs.Motion.{own_vector}
use Rattle.thr_modes.proofs.EachLemmas.{each_more, each_fault, each_done}
use Rattle.thr_modes.specs.Views.{vector_form}
use Rattle.thr_modes.proofs.motion.read_own_vectors.Goals as goal

pub returns-in_err-vectors-clause-value : goal.returns-in_err-vectors-clause-value
returns-in_err-vectors-clause-value c =
    let p = err_from_is_err_and c.from_residual.result c.from_residual.ensures.1 in
    let there : slice_get c.args.luma c.luma.b ≡ Some (get_or c.args.luma c.luma.b false) = slice_get-get_or c.args.luma c.luma.b false (omega arith) in
    rw (p.1, p.2)
    (sym c.luma.invariant.read ∙ each_fault (own_vector (vector_form c.args.coding)) c.args.luma (take c.luma.b (map offset_of c.luma.vectors)) c.luma.b (get_or c.args.luma c.luma.b false) c.in_err-vectors.field-0.0 c.luma.r.left there c.in_err-vectors.ensures.value)

pub luma-preserved : goal.luma-preserved
luma-preserved c =
    let there : slice_get c.args.luma c.luma.b ≡ Some (get_or c.args.luma c.luma.b false) = slice_get-get_or c.args.luma c.luma.b false (omega arith) in
    let within : c.luma.b < length (map offset_of c.luma.vectors) = omega (arith, length-map c.luma.vectors offset_of, c.luma.invariant.long) in record {
      read =
          rw (map-set offset_of c.luma.vectors c.luma.b c.in_ok-vectors.field-0)
          (each_more (own_vector (vector_form c.args.coding)) c.args.luma (map offset_of c.luma.vectors) c.luma.b (get_or c.args.luma c.luma.b false) (offset_of c.in_ok-vectors.field-0) c.luma.r.left c.read_own_vector.new.r.left there within c.in_ok-vectors.ensures.value
          ∙ c.luma.invariant.read);
      long = length-set c.luma.vectors c.luma.b c.in_ok-vectors.field-0 ∙ c.luma.invariant.long;
      end = search rules;
    }

pub returns-clause-value : goal.returns-clause-value
returns-clause-value c =
    let all : length (map offset_of c.luma.vectors) ≤ c.luma.b = omega (arith, length-map c.luma.vectors offset_of, c.luma.invariant.long) in
    sym c.luma.invariant.read ∙ each_done (own_vector (vector_form c.args.coding)) c.args.luma (map offset_of c.luma.vectors) c.luma.b c.luma.r.left (omega arith) all
