use Rattle.std.proofs.Common.{◌≤◌, ◌-◌, map, length, vec_len, All}
use Rattle.thr_huff.specs.CodeTree.{code_tree}
use Rattle.thr_huff.specs.Trees.{IsTree}
use Rattle.thr_huff.proofs.tests.leaves.Given as goal

abbrev pub invariant-loop-trees : goal.invariant-loop-trees
invariant-loop-trees l = record {
  few : length l.trees.items ≤ 80;
  each : All IsTree (map code_tree l.trees.items);
}

abbrev pub decreases-loop-trees : goal.decreases-loop-trees
decreases-loop-trees l = 80 - vec_len l.trees
