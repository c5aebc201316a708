use Rattle.std.proofs.Common.{arith, subst}
use Rattle.thr_token.specs.Telling.{Steps}
use Rattle.thr_token.specs.Views.{as_meaning}
use Rattle.thr_token.proofs.AddingLemmas.{each_more, takes, told_more}
use Rattle.thr_token.proofs.adding.add.Goals as goal

pub returns-in_ok-end-in-EndRun-clause-told : goal.returns-in_ok-end-in-EndRun-clause-told
returns-in_ok-end-in-EndRun-clause-told c = λ whole rest next steps.
    c.in_ok-end-in-EndRun.ensures.told whole rest next (subst (λ m. Steps c.args.place c.args.luma (as_meaning m) rest next) c.in-EndRun.is steps)

pub returns-in_ok-push-in_default : goal.returns-in_ok-push-in_default
returns-in_ok-push-in_default c = record {
  told = λ whole rest next steps held.
      told_more c.args.place c.args.luma (as_meaning c.args.meaning) c.close.new.tokens.items c.push.new.tokens.items whole rest next c.in_ok-push-in_default.ensures.adds
      (takes c.args.place c.args.luma c.args.meaning rest next c.in_default.not-EndRun steps) (c.in_ok-close-in_default.ensures.told whole rest held);
  tokens = λ each. each_more c.args.place c.args.luma (as_meaning c.args.meaning) c.close.new.tokens.items c.push.new.tokens.items c.in_ok-push-in_default.ensures.adds (c.in_ok-close-in_default.ensures.tokens each);
  few = omega (arith, c.in_ok-push-in_default.ensures.few, c.in_ok-close-in_default.ensures.few);
}
