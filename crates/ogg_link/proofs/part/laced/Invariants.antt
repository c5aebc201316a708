use Rattle.std.proofs.Common.{◌≡◌, ◌*◌, ◌≤◌, ◌++◌, not, drop}
use Rattle.ogg_link.specs.Parts.{parts_from}
use Rattle.ogg_link.proofs.part.laced.Given as goal

-- the lacing values that are left decide the other parts
abbrev pub invariant-lacing : goal.invariant-lacing
invariant-lacing l = record {
  bound : l.at ≤ 255 * l.size-index;
  parts : l.parts.items ++ parts_from l.first l.at l.starts (drop l.size-index l.fn.lacing) ≡ parts_from 0 0 (not l.unfinished) l.fn.lacing;
}
