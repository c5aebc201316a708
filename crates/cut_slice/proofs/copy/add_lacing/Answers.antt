use Rattle.std.proofs.Common.{◌≡◌, ◌-◌, ◌/◌, ◌%◌, arith, ◌∙◌}
use Rattle.cut_slice.proofs.CopyLemmas.{lacing_step, lacing_end}
use Rattle.cut_slice.proofs.copy.add_lacing.Goals as goal

pub loop-preserved : goal.loop-preserved
loop-preserved c = rw c.in_ok-push.ensures.items (lacing_step c.loop.lacing.items (c.args.size / 255) c.loop.counter (c.args.size % 255) c.loop-test.true ∙ c.loop.invariant)

pub returns : goal.returns
returns c =
    let done : c.args.size / 255 - c.loop.counter ≡ 0 = omega arith in
    record { added = rw c.in_ok-push-2.ensures.items (lacing_end c.loop.lacing.items (c.args.size / 255 - c.loop.counter) (c.args.size % 255) done ∙ c.loop.invariant) }
