use Rattle.std.proofs.Common.{◌≡◌, ◌≤◌, ◌+◌, [], length, drop}
use Rattle.y4m_io.specs.Parts.{with_parts, room_for}
use Rattle.y4m_io.proofs.line.line.Given as goal

-- the line so far, and the parts that are left behind it, is the whole line, and fits
abbrev pub invariant-parts : goal.invariant-parts
invariant-parts g l = record {
  text : with_parts l.line.items (drop l.part-index l.parts) ≡ with_parts [] l.parts;
  room : length l.line.items + room_for (drop l.part-index l.parts) ≤ g.row.N;
}
