use Rattle.std.proofs.Common.{◌≡◌, ◌++◌, ◌+◌, ◌-◌, ◌/◌, ◌≤◌, ℕ, List, length, drop, vec_capacity}
use Rattle.ogg_mux.specs.OutputPages.{Segment, pages_from, packet_segments}
use Rattle.ogg_mux.specs.Room.{IsRoomy}
use Rattle.ogg_mux.proofs.packets.add_packet.Given as goal

-- whatever follows, the rest of the packet comes before it, and there is room for its pages
abbrev pub invariant-loop-at : goal.invariant-loop-at
invariant-loop-at l = record {
  place : l.at ≤ length l.bytes;
  room : IsRoomy (length l.ready.items) (vec_capacity l.ready) l.held ((length l.bytes - l.at) / 255 + 1) (length l.bytes - l.at);
  all : (last : ℕ) (more : List Segment) → l.ready.items ++ pages_from l.serial last l.held (packet_segments (drop l.at l.bytes) l.granule l.least ++ more) ≡ l.fn.ready.items ++ pages_from l.serial last l.fn.held (packet_segments l.bytes l.granule l.least ++ more);
}

abbrev pub decreases-loop-at : goal.decreases-loop-at
decreases-loop-at l = length l.bytes - l.at
