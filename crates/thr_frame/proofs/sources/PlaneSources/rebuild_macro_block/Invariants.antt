use Rattle.std.proofs.Common.{take}
use Rattle.thr_frame.specs.Sources.{IsPaintedFrom}
use Rattle.thr_frame.proofs.sources.PlaneSources.rebuild_macro_block.Given as goal

abbrev pub invariant-loop-k : goal.invariant-loop-k
invariant-loop-k l = record { painted : IsPaintedFrom l.self l.m (take l.k l.places) l.plane }
