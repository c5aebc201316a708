use Rattle.std.proofs.Common.{◌≡◌, map, take}
use Rattle.thr_huff.specs.CodeTree.{code_tree}
use Rattle.thr_huff.proofs.forest.ForestClone.clone.Given as goal

abbrev pub invariant-trees : goal.invariant-trees
invariant-trees l = map (λ b. code_tree b.tree) l.books.items ≡ map (λ b. code_tree b.tree) (take l.book-index l.book-items)
