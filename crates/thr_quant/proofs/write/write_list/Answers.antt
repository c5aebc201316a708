use Rattle.std.proofs.Common.{arith}
use Rattle.thr_quant.proofs.WritingLemmas.{list_step, list_end, range_fits, still_front}
use Rattle.std.proofs.lemmas.List.Sums.{sum_by_more}
use Rattle.thr_quant.specs.declared.ranges.Range.{Range}
use Rattle.thr_quant.proofs.write.write_list.Goals as goal

pub loop-range-preserved : goal.loop-range-preserved
loop-range-preserved c =
    let blank : Range = record { size = 0; next = 0 } in
    record {
      left = omega (
        arith,
        c.loop-range.invariant.left,
        (range_fits c.loop-range.left c.loop-range.range-index c.args.list.now blank c.loop-range-test.true c.requires.whole c.loop-range.invariant.left).1,
        sum_by_more (λ (range : Range). range.size) c.args.list.now c.loop-range.range-index blank c.loop-range-test.true,
      );
      all = list_step c.args.count c.loop-range.left c.loop-range.range-index c.args.list.now blank _ c.loop-range.w c.write_range.new.w c.loop-range-test.true c.loop-range.invariant.all (c.in_ok-write_range.ensures {u = tt}).written;
      front = still_front c.args.w.now c.loop-range.w c.write_range.new.w _ c.loop-range.invariant.front (c.in_ok-write_range.ensures {u = tt}).written;
    }

pub returns-clause-written : goal.returns-clause-written
returns-clause-written c = list_end c.args.count c.loop-range.left c.loop-range.range-index c.args.list.now _ c.loop-range.w (omega arith) c.loop-range.invariant.all
