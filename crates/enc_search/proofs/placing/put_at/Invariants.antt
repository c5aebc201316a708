use Rattle.std.proofs.Common.{◌≡◌, length, map, drop, replicate}
use Rattle.thr_modes.specs.Vectors.{offset_of}
use Rattle.thr_modes.specs.Placing.{put_at}
use Rattle.enc_search.proofs.placing.put_at.Given as goal

abbrev pub invariant-places : goal.invariant-places
invariant-places l =
    put_at (map offset_of l.vectors) (drop l.k l.places) (drop l.k (replicate (length l.places) (offset_of l.vector))) ≡ put_at (map offset_of l.fn.vectors) l.places (replicate (length l.places) (offset_of l.vector))
