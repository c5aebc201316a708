use Rattle.std.proofs.Common.{◌≡◌, map}
use Rattle.thr_huff.specs.CodeTree.{code_tree}
use Rattle.thr_huff.proofs.forest.Forest.new.Given as goal

abbrev pub invariant-trees : goal.invariant-trees
invariant-trees l = map (λ b. code_tree b.tree) l.books.items ≡ map code_tree l.yielded
