use Rattle.std.proofs.Common.{◌≡◌, ◌++◌, map, take}
use Rattle.thr_huff.specs.CodeTree.{code_tree}
use Rattle.thr_huff.specs.Trees.{forest_bits}
use Rattle.thr_huff.proofs.forest.write_forest.Given as goal

abbrev pub invariant-trees : goal.invariant-trees
invariant-trees l = l.w ≡ l.fn.w ++ forest_bits (map (λ b. code_tree b.tree) (take l.book-index l.book-items))
