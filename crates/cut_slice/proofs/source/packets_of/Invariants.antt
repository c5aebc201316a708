use Rattle.std.proofs.Common.{◌≡◌, ◌++◌, map, drop, All}
use Rattle.ogg_page.specs.Page.{view}
use Rattle.cut_slice.specs.Plain.{all_packets}
use Rattle.cut_slice.specs.Copy.{IsShort}
use Rattle.cut_slice.proofs.source.packets_of.Given as goal

abbrev pub invariant-loop-page : goal.invariant-loop-page
invariant-loop-page l = record {
  packets : map (λ p. p.now) l.packets.items ++ all_packets (map view (drop l.page-index l.pages)) ≡ all_packets (map view l.pages);
  short : All IsShort (map (λ p. p.now) l.packets.items);
}
