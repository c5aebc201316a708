use Rattle.std.proofs.Common.{◌≡◌, take}
use Rattle.thr_dc.specs.Prediction.{last_of}
use Rattle.thr_dc.specs.Walks.{blocks_of}
use Rattle.thr_dc.proofs.plane.Plane.last.Given as goal

-- the blocks passed have no value of the kind
abbrev pub invariant-places : goal.invariant-places
invariant-places l = last_of l.kind (take l.place (blocks_of l.self l.values)) ≡ last_of l.kind (take l.before (blocks_of l.self l.values))
