use Rattle.std.proofs.Common.{◌≡◌, drop}
use Rattle.thr_frame.specs.Kinds.{put_same}
use Rattle.thr_frame.proofs.kinds.put_kind.Given as goal

-- what is put so far, and the rest, are the whole
abbrev pub invariant-places : goal.invariant-places
invariant-places l = put_same l.kind (drop l.k l.places) l.kinds ≡ put_same l.kind l.places l.fn.kinds
