use Rattle.std.proofs.Common.{lit<, lit≤, arith}
use Rattle.thr_huff.specs.CodeTree.{Token, code_tree}
use Rattle.thr_huff.specs.Codes.{codes_of}
use Rattle.thr_huff.specs.Trees.{IsTree}
use Rattle.thr_huff.proofs.TreeLemmas.{fits_leaf, is_tree}
use Rattle.thr_huff.proofs.ForestLemmas.{each_more}
use Rattle.thr_huff.proofs.tests.leaves.Goals as goal

pub loop-trees-preserved : goal.loop-trees-preserved
unfolding codes_of
loop-trees-preserved c =
    let leaf : IsTree (Token 5) = is_tree (Token 5) (lit≤ tt) (fits_leaf 33 5 (lit< tt) (lit< tt)) in
    record {
      few = omega (arith, c.len.ensures, c.loop-trees.trees.ok, c.in_ok-push.ensures.len, c.push.new.self.ok);
      each = rw c.in_ok-push.ensures.items (each_more code_tree c.loop-trees.trees.items c.leaf.result c.loop-trees.invariant.each (rw c.leaf.ensures leaf));
    }
