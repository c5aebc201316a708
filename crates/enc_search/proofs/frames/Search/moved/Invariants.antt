use Rattle.std.proofs.Common.{◌≡◌, ℕ, ◌<◌, ◌≤◌, ◌/◌, ◌%◌}
use Rattle.thr_modes.specs.Motion.{Memory}
use Rattle.thr_modes.specs.Vectors.{offset_of}
use Rattle.enc_search.specs.Found.{IsAllowed}
use Rattle.enc_search.specs.Searched.{even}
use Rattle.enc_search.specs.Views.{distance_by}
use Rattle.enc_search.proofs.frames.Search.moved.Given as goal

abbrev pub invariant-loop-k : goal.invariant-loop-k
invariant-loop-k l = record {
  distance : l.best.distance ≡ distance_by l.self l.best.mode (offset_of l.best.vector);
  least : (k : ℕ) → k < l.k → l.best.distance ≤ distance_by l.self 2 (record { x = even (k % 9); y = even (k / 9) });
  no_more : l.best.distance ≤ l.fn.first.distance;
  allowed : (memory : Memory) → IsAllowed memory l.fn.first.mode (offset_of l.fn.first.vector) → IsAllowed memory l.best.mode (offset_of l.best.vector);
}
