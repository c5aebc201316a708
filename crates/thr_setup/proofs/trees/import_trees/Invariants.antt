use Rattle.std.proofs.Common.{◌≡◌, ◌%◌, map}
use Rattle.std.specs.List.{range_with_len}
use Rattle.thr_huff.specs.CodeTree.{code_tree}
use Rattle.thr_setup.specs.ImportTrees.{import_tree}
use Rattle.thr_setup.proofs.trees.import_trees.Given as goal

-- the trees so far
abbrev pub invariant-trees : goal.invariant-trees
invariant-trees l = map code_tree l.trees.items ≡ map (λ hti. import_tree (hti % 16)) (range_with_len 0 l.hti)
