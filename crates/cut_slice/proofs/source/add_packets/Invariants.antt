use Rattle.std.proofs.Common.{◌≡◌, ◌≤◌, ◌+◌, ◌-◌, ◌/◌, ◌%◌, ◌++◌, [], length, map, take, drop, sum, All}
use Rattle.ogg_page.specs.Packets.{segments, packets_from}
use Rattle.cut_slice.specs.Copy.{IsShort, lacing_count}
use Rattle.cut_slice.proofs.source.add_packets.Given as goal

-- the packets so far, and those that the segments that are left give; the lacing values so far are those of the packets and of what goes on
abbrev pub invariant-loop-size : goal.invariant-loop-size
invariant-loop-size l = record {
  order : l.first ≤ l.at;
  place : l.at + sum (drop l.size-index l.lacing) ≡ length l.body;
  packets : map (λ p. p.now) l.into.items ++ packets_from (take (l.at - l.first) (drop l.first l.body)) (segments (drop l.size-index l.lacing) (drop l.at l.body)) ≡ map (λ p. p.now) l.fn.into.items ++ packets_from [] (segments l.lacing l.body);
  whole : (l.at - l.first) % 255 ≡ 0;
  grows : lacing_count (map (λ p. p.now) l.fn.into.items) ≤ lacing_count (map (λ p. p.now) l.into.items);
  counted : lacing_count (map (λ p. p.now) l.into.items) + (l.at - l.first) / 255 ≡ lacing_count (map (λ p. p.now) l.fn.into.items) + l.size-index;
  short : All IsShort (map (λ p. p.now) l.fn.into.items) → All IsShort (map (λ p. p.now) l.into.items);
}
