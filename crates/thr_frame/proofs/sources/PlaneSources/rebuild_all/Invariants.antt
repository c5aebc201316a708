use Rattle.std.proofs.Common.{[]}
use Rattle.thr_frame.specs.Sources.{IsPaintedFrom}
use Rattle.thr_frame.proofs.sources.PlaneSources.rebuild_all.Given as goal

abbrev pub invariant-loop-m : goal.invariant-loop-m
invariant-loop-m l = record { painted : IsPaintedFrom l.self l.m [] l.plane }
