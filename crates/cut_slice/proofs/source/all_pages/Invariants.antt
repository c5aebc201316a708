use Rattle.std.proofs.Common.{◌≡◌, ◌-◌, ◌≤◌, ◌++◌, length, map, drop, List, All}
use Rattle.ogg_page.specs.Page.{Page, ArePages, HasShape, view}
use Rattle.cut_slice.proofs.source.all_pages.Given as goal

-- whatever pages fill the bytes from here on, with those so far they fill all, and all pages of the bytes are of that form
abbrev pub invariant-loop-at : goal.invariant-loop-at
invariant-loop-at l = record {
  place : l.at ≤ length l.bytes;
  front : (more : List Page) → ArePages (drop l.at l.bytes) more → ArePages l.bytes (map view l.pages.items ++ more);
  only : (all : List Page) → ArePages l.bytes all → (more : List Page) × (all ≡ map view l.pages.items ++ more) × ArePages (drop l.at l.bytes) more;
  shapes : All (λ page. HasShape page.lacing.now page.body.now) l.pages.items;
}

abbrev pub decreases-loop-at : goal.decreases-loop-at
decreases-loop-at l = length l.bytes - l.at
