use Rattle.std.proofs.Common.{◌≡◌, ◌≤◌, ◌-◌, length, map, vec_len, All}
use Rattle.vid_base.specs.Reading.{SameEnd}
use Rattle.vid_base.specs.Items.{items, with_front}
use Rattle.thr_huff.specs.CodeTree.{code_tree}
use Rattle.thr_huff.specs.Trees.{tree_at, forest_at, IsTree}
use Rattle.thr_huff.proofs.forest.read_trees.Given as goal

abbrev pub invariant-trees : goal.invariant-trees
invariant-trees l = record {
  few : vec_len l.books ≤ 80;
  each : All IsTree (map (λ b. code_tree b.tree) l.books.items);
  read : with_front (map (λ b. code_tree b.tree) l.books.items) (items (tree_at 33 0) (80 - length l.books.items) l.r.left) ≡ forest_at l.fn.r.left;
  end : SameEnd l.fn.r l.r;
}

abbrev pub decreases-trees : goal.decreases-trees
decreases-trees l = 80 - vec_len l.books
