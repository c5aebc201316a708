use Rattle.std.proofs.Common.{◌≡◌, map, drop}
use Rattle.ogg_page.specs.Page.{view}
use Rattle.cut_slice.specs.Plain.{in_order}
use Rattle.cut_slice.proofs.source.in_order.Given as goal

-- the pages that are left decide
abbrev pub invariant-loop-n : goal.invariant-loop-n
invariant-loop-n l = in_order l.serial l.n (map view (drop l.n l.pages)) ≡ in_order l.serial 0 (map view l.pages)
