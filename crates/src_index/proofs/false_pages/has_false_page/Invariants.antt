use Rattle.std.proofs.Common.{ℕ, ◌<◌, ◌≤◌, ◌-◌, List, drop, IsOk}
use Rattle.ogg_page.specs.Page.{page_at_front}
use Rattle.src_index.specs.Windows.{OpensTwo}
use Rattle.src_index.proofs.false_pages.has_false_page.Given as goal

-- no page begins before this byte
abbrev pub invariant-letters : goal.invariant-letters
invariant-letters l = record {
  some : 0 < l.from;
  fits : l.from ≤ l.size;
  none : (bytes : List ℕ) (place : ℕ) → OpensTwo l.window bytes → 0 < place → place < l.from → ¬ IsOk (page_at_front (drop place bytes));
}

abbrev pub decreases-letters : goal.decreases-letters
decreases-letters l = l.size - l.from
