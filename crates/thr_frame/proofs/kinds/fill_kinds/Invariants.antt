use Rattle.thr_frame.proofs.KindLemmas.{KnownBefore}
use Rattle.thr_frame.proofs.kinds.fill_kinds.Given as goal

-- the blocks of the macro blocks so far have their kinds
abbrev pub invariant-macro_blocks : goal.invariant-macro_blocks
invariant-macro_blocks l = KnownBefore l.geom l.modes l.m l.kinds
