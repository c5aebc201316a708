use Rattle.std.proofs.Common.{◌≡◌, ◌<◌, ℕ, [], false, true, get_or, pos, replicate}
use Rattle.thr_token.proofs.token_tests.are_blank.Given as goal

-- those so far
abbrev pub invariant-flags : goal.invariant-flags
invariant-flags l = (i : ℕ) → i < l.b → get_or l.flags i true ≡ false → get_or l.values i [] ≡ replicate 64 (pos 0)
