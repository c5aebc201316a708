use Rattle.std.proofs.Common.{rules, arith, ◌∙◌, sym}
use Rattle.std.proofs.lemmas.Result.{err_from_is_err_and}
use Rattle.vid_base.proofs.ItemLemmas.{items_step, items_fault, items_end}
use Rattle.thr_quant.specs.Ramps.{base_matrix_of}
use Rattle.thr_quant.proofs.ramps.read_list.Goals as goal

pub returns-in_err-matrix-clause-value : goal.returns-in_err-matrix-clause-value
unfolding base_matrix_of
returns-in_err-matrix-clause-value c =
    let p = err_from_is_err_and c.from_residual.result c.from_residual.ensures.1 in
    rw (p.1, p.2) (sym c.loop.invariant.read ∙ items_fault base_matrix_of c.loop.list.items c.args.count c.loop.counter _ c.loop.r.left c.loop-test.true c.in_err-matrix.ensures.value)

pub loop-preserved : goal.loop-preserved
unfolding base_matrix_of
loop-preserved c = record {
  count = omega (arith, c.in_ok-push.ensures.len);
  read = rw c.in_ok-push.ensures.items (items_step base_matrix_of c.loop.list.items c.args.count c.loop.counter c.in_ok-matrix.matrix c.loop.r.left c.read_bytes.new.r.left c.loop-test.true c.in_ok-matrix.ensures.value ∙ c.loop.invariant.read);
  end = search rules;
}

pub returns-clause-value : goal.returns-clause-value
returns-clause-value c = sym c.loop.invariant.read ∙ items_end base_matrix_of c.loop.list.items c.args.count c.loop.counter c.loop.r.left (omega arith)
