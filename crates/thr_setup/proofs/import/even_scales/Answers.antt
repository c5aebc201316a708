use Rattle.std.proofs.Common.{arith, ◌+◌, ◌-◌, ◌*◌}
use Rattle.std.proofs.lemmas.List.FromFn.{fill_by_all}
use Rattle.thr_setup.specs.Import.{even_scales}
use Rattle.thr_setup.proofs.import.even_scales.Goals as goal

pub returns : goal.returns
unfolding even_scales
returns c = fill_by_all (λ k. 10 + c.args.step * (63 - k)) c.loop-qi.scale-items 64 0 c.loop-qi.invariant.long (λ k h. c.loop-qi.invariant.values k (omega arith))
