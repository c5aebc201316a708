use Rattle.std.proofs.Common.{◌≡◌, ◌-◌, ◌++◌, ◌≤◌, ◌^◌, List, drop, sum, length}
use Rattle.ogg_page.specs.Packets.{Piece, segments}
use Rattle.src_index.specs.Gather.{first_packet}
use Rattle.src_index.proofs.packet.add_segments.Given as goal

-- the segments that are left give from here the packet that all give from the start
abbrev pub invariant-lacing : goal.invariant-lacing
invariant-lacing l = record {
  sizes : sum (drop l.i l.fn.lacing) ≡ length l.rest;
  packet : (more : List Piece) → first_packet l.into.items (drop (l.first - l.i) (segments (drop l.i l.fn.lacing) l.rest) ++ more) ≡ first_packet l.fn.into.items (drop l.first (segments l.fn.lacing l.fn.body) ++ more);
  few : length l.into.items ≤ 2 ^ 30;
}
