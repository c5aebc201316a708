use Rattle.std.proofs.Common.{◌≡◌, ◌+◌, ◌++◌, length, take, drop}
use Rattle.thr_frame.specs.QuantiserPlaces.{moved_up, standing}
use Rattle.thr_frame.proofs.places.move_up.Given as goal

-- what moved so far, and the rest, are all; and a mark is left for each block that is still to take one
abbrev pub invariant-blocks-2 : goal.invariant-blocks-2
invariant-blocks-2 l = record {
  moved : take l.b l.places ++ moved_up l.place (drop l.b l.flags) (drop l.b l.places) (drop l.next l.moves) ≡ moved_up l.place l.flags l.fn.places l.moves;
  left : l.next + standing l.place (drop l.b l.flags) (drop l.b l.places) ≡ length l.moves;
}
