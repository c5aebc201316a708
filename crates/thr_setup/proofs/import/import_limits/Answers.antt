use Rattle.std.proofs.Common.{arith, ◌-◌, ◌/◌}
use Rattle.std.proofs.lemmas.Grind.{get_or_default_zero}
use Rattle.std.proofs.lemmas.List.FromFn.{fill_by_all}
use Rattle.thr_setup.specs.Import.{import_limits}
use Rattle.thr_setup.proofs.import.import_limits.Goals as goal

pub invariant_of-result : goal.invariant_of-result
invariant_of-result c = record { small = λ k d h. rw (get_or_default_zero c.loop-qi.limit-items k d h) (omega (arith, c.loop-qi.invariant.values k (omega arith))) }

pub returns : goal.returns
unfolding import_limits
returns c = fill_by_all (λ k. (63 - k) / 3) c.loop-qi.limit-items 64 0 c.loop-qi.invariant.long (λ k h. c.loop-qi.invariant.values k (omega arith))
