use Rattle.std.proofs.Common.{◌≡◌, ◌+◌, ◌≤◌, drop}
use Rattle.thr_frame.specs.QuantiserPlaces.{standing}
use Rattle.thr_frame.proofs.places.standing.Given as goal

-- what is counted so far, and the rest, are all
abbrev pub invariant-blocks-2 : goal.invariant-blocks-2
invariant-blocks-2 l = record {
  counted : l.count + standing l.place (drop l.b l.flags) (drop l.b l.places) ≡ standing l.place l.flags l.places;
  most : l.count ≤ l.b;
}
