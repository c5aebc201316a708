use Rattle.std.proofs.Common.{◌≡◌, vec_len}
use Rattle.thr_loop.proofs.tests.drawn_flags.Given as goal

abbrev pub invariant-loop-place : goal.invariant-loop-place
invariant-loop-place l = vec_len l.flags ≡ l.place
