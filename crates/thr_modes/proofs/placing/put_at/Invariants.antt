use Rattle.std.proofs.Common.{◌≡◌, map, drop}
use Rattle.thr_modes.specs.Vectors.{offset_of}
use Rattle.thr_modes.specs.Placing.{put_at}
use Rattle.thr_modes.proofs.placing.put_at.Given as goal

abbrev pub invariant-places : goal.invariant-places
invariant-places l = put_at (map offset_of l.vectors) (drop l.k l.places) (drop l.k (map offset_of l.values)) ≡ put_at (map offset_of l.fn.vectors) l.places (map offset_of l.values)
