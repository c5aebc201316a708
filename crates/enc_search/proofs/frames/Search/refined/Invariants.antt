use Rattle.std.proofs.Common.{◌≡◌, ◌≤◌}
use Rattle.thr_modes.specs.Motion.{Memory}
use Rattle.thr_modes.specs.Vectors.{offset_of}
use Rattle.enc_search.specs.Found.{IsAllowed}
use Rattle.enc_search.specs.Views.{distance_by}
use Rattle.enc_search.proofs.frames.Search.refined.Given as goal

abbrev pub invariant-loop-k : goal.invariant-loop-k
invariant-loop-k l = record {
  distance : l.best.distance ≡ distance_by l.self l.best.mode (offset_of l.best.vector);
  no_more : l.best.distance ≤ l.fn.first.distance;
  allowed : (memory : Memory) → IsAllowed memory l.fn.first.mode (offset_of l.fn.first.vector) → IsAllowed memory l.best.mode (offset_of l.best.vector);
}
