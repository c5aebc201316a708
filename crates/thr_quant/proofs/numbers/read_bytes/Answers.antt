use Rattle.std.proofs.Common.{rules, arith, ◌^◌}
use Rattle.std.proofs.lemmas.Result.{err_from_is_err_and}
use Rattle.thr_quant.proofs.FieldLemmas.{fields_step, fields_ended, fields_end, small_step, small_end}
use Rattle.thr_quant.proofs.numbers.read_bytes.Goals as goal

pub returns-in_err-number-clause-value : goal.returns-in_err-number-clause-value
returns-in_err-number-clause-value c =
    let p = err_from_is_err_and c.from_residual.result c.from_residual.ensures.1 in
    rw (p.1) (fields_ended c.args.width 64 c.loop-number.number-index _ c.loop-number.r.left _ c.loop-number-test.true c.in_err-number.ensures.value c.loop-number.invariant.read)

pub loop-number-preserved : goal.loop-number-preserved
loop-number-preserved c = record {
  long = search rules;
  read = fields_step c.args.width 64 c.loop-number.number-index c.in_ok-number.field-0 c.loop-number.number-items c.loop-number.r.left c.take.new.self.left _ c.loop-number-test.true c.loop-number.invariant.long c.in_ok-number.ensures.value c.loop-number.invariant.read;
  small = small_step (2 ^ c.args.width) c.loop-number.number-index c.in_ok-number.field-0 c.loop-number.number-items (omega arith) c.in_ok-number.ensures.small c.loop-number.invariant.small;
  end = search rules;
}

pub returns-clause-value : goal.returns-clause-value
returns-clause-value c = fields_end c.args.width 64 c.loop-number.number-index c.loop-number.number-items c.loop-number.r.left _ (omega arith) c.loop-number.invariant.long c.loop-number.invariant.read

pub returns-clause-small : goal.returns-clause-small
returns-clause-small c = small_end (2 ^ c.args.width) c.loop-number.number-index c.loop-number.number-items (omega arith) c.loop-number.invariant.small
