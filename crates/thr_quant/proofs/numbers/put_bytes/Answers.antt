use Rattle.std.proofs.Common.{sym}
use Rattle.std.proofs.lemmas.List.{append-nil}
use Rattle.vid_base.specs.Items.{all_digits}
use Rattle.thr_quant.proofs.WritingLemmas.{put_step}
use Rattle.thr_quant.proofs.numbers.put_bytes.Goals as goal

pub loop-number-init : goal.loop-number-init
unfolding all_digits
loop-number-init c = sym (append-nil c.args.w.now)

pub loop-number-preserved : goal.loop-number-preserved
loop-number-preserved c = put_step c.args.width c.loop-number.number-index c.from.result c.args.numbers.now c.args.w.now c.loop-number.w c.put.new.self c.loop-number-test.true c.from.ensures c.loop-number.invariant c.in_ok-put.ensures.written
