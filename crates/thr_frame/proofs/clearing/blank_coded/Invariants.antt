use Rattle.std.proofs.Common.{◌≡◌, ℕ, ◌<◌, ◌≤◌, [], pos, get_or, replicate}
use Rattle.thr_frame.proofs.clearing.blank_coded.Given as goal

-- the values so far are 0, and the others are as they were
abbrev pub invariant-blocks-2 : goal.invariant-blocks-2
invariant-blocks-2 l = record {
  cleared : (k : ℕ) → k < l.b → get_or l.values k [] ≡ replicate 64 (pos 0);
  kept : (k : ℕ) → l.b ≤ k → get_or l.values k [] ≡ get_or l.fn.values k [];
}
