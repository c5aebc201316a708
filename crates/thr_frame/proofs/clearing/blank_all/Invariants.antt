use Rattle.std.proofs.Common.{◌≡◌, ℕ, ◌<◌, [], pos, get_or, replicate}
use Rattle.thr_frame.proofs.clearing.blank_all.Given as goal

-- the values so far are 0
abbrev pub invariant-blocks-2 : goal.invariant-blocks-2
invariant-blocks-2 l = (k : ℕ) → k < l.b → get_or l.values k [] ≡ replicate 64 (pos 0)
