use Rattle.std.proofs.Common.{[], ◌++◌, ◌<◌, length, arith, lit<, ap}
use Rattle.std.proofs.lemmas.Result.{IfOk-equal}
use Rattle.vid_base.specs.Bits.{digits}
use Rattle.thr_huff.specs.CodeTree.{code_tree}
use Rattle.thr_huff.specs.Codes.{codes_of}
use Rattle.thr_huff.specs.Trees.{tree_bits}
use Rattle.thr_huff.proofs.TreeLemmas.{fewer_left, fewer_right, written_leaf, written_fork, each_left, each_right}
use Rattle.thr_huff.proofs.tree.+write_tree.Goals as goal

pub put-requires-in-Leaf-clause-value : goal.put-requires-in-Leaf-clause-value
unfolding code_tree codes_of
put-requires-in-Leaf-clause-value t c =
    rw c.from.ensures ((rw c.in-Leaf.is at c.requires) 0 ([], 0) (lit< tt))

pub write_tree-requires : goal.write_tree-requires
unfolding code_tree
write_tree-requires t c =
    let held = rw c.in-Branch.is at c.requires in (
      omega (arith, fewer_left (code_tree c.in-Branch.left.value) (code_tree c.in-Branch.right.value), ap (λ tree. length (codes_of (code_tree tree))) c.deref.ensures, ap (λ tree. length (codes_of (code_tree tree))) c.in-Branch.is),
      rw c.deref.ensures (each_left (λ code. code.1 < 32) (code_tree c.in-Branch.left.value) (code_tree c.in-Branch.right.value) held),
    )

pub write_tree-requires-in-Branch : goal.write_tree-requires-in-Branch
unfolding code_tree
write_tree-requires-in-Branch t c =
    let held = rw c.in-Branch.is at c.requires in (
      omega (arith, fewer_right (code_tree c.in-Branch.left.value) (code_tree c.in-Branch.right.value), ap (λ tree. length (codes_of (code_tree tree))) c.deref-in-Branch.ensures, ap (λ tree. length (codes_of (code_tree tree))) c.in-Branch.is),
      rw c.deref-in-Branch.ensures (each_right (λ code. code.1 < 32) (code_tree c.in-Branch.left.value) (code_tree c.in-Branch.right.value) held),
    )

pub returns-in_ok-put-in-Leaf-clause-written : goal.returns-in_ok-put-in-Leaf-clause-written
unfolding code_tree
returns-in_ok-put-in-Leaf-clause-written t c =
    IfOk-equal c.put-in-Leaf.result c.put-in-Leaf.new.self (c.put.new.self ++ digits 5 c.from.result) (c.args.w.now ++ tree_bits (code_tree c.args.tree.now)) c.put-in-Leaf.ensures.written
    (rw (c.in_ok-put-in-Leaf.ensures.written, c.from.ensures, c.in-Leaf.is) (written_leaf c.args.w.now c.in-Leaf.token))

pub returns-in_ok-write_tree-in-Branch-clause-written : goal.returns-in_ok-write_tree-in-Branch-clause-written
unfolding code_tree
returns-in_ok-write_tree-in-Branch-clause-written t c =
    IfOk-equal c.write_tree-in-Branch.result c.write_tree-in-Branch.new.w (c.write_tree.new.w ++ tree_bits (code_tree c.deref-in-Branch.result.now)) (c.args.w.now ++ tree_bits (code_tree c.args.tree.now)) c.write_tree-in-Branch.ensures.written
    (rw (c.in_ok-write_tree-in-Branch.ensures.written, c.in_ok-put-in-Branch.ensures.written, c.deref.ensures, c.deref-in-Branch.ensures, c.in-Branch.is)
    (written_fork c.args.w.now (code_tree c.in-Branch.left.value) (code_tree c.in-Branch.right.value)))
