use Rattle.std.proofs.Common.{◌≡◌, ℕ, ◌<◌, ◌≤◌, [], pos, false, true, get_or, unsigned_abs}
use Rattle.thr_dc.proofs.tests.is_within_limit.Given as goal

abbrev pub invariant-places : goal.invariant-places
invariant-places l = (k : ℕ) → k < l.place → get_or l.flags k false ≡ true → unsigned_abs (get_or (get_or l.values k []) 0 (pos 0)) ≤ 580
