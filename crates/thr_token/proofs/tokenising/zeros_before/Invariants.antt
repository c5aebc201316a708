use Rattle.std.proofs.Common.{◌≤◌}
use Rattle.thr_token.specs.Telling.{AreZeros}
use Rattle.thr_token.proofs.tokenising.zeros_before.Given as goal

-- only zeros so far
abbrev pub invariant-places : goal.invariant-places
invariant-places l = record { from : l.place ≤ l.at; zeros : AreZeros l.block l.place l.at }
