use Rattle.std.proofs.Common.{◌≡◌, ◌≤◌, ◌+◌, ◌++◌, length}
use Rattle.cut_list.specs.EditList.{bad_from, lines_of, slices_from}
use Rattle.cut_list.specs.Slices.{slices_view}
use Rattle.cut_list.proofs.read.read_slices.Given as goal

-- the lines that are left go on from those that were read
abbrev pub invariant-lines : goal.invariant-lines
invariant-lines l = record {
  low : 1 ≤ l.line;
  few : l.line ≤ 10000;
  counted : l.line + length (lines_of l.rest) ≡ 1 + length (lines_of l.text);
  bad : bad_from (l.line + 1) (lines_of l.rest) ≡ bad_from 2 (lines_of l.text);
  slices : slices_view l.slices.items ++ slices_from (l.line + 1) (lines_of l.rest) ≡ slices_from 2 (lines_of l.text);
}

abbrev pub decreases-lines : goal.decreases-lines
decreases-lines l = length l.rest
