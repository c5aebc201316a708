use Rattle.std.proofs.Common.{true, false, arith}
use Rattle.std.proofs.lemmas.Bool.{eq-eqb, ne_eqb}
use Rattle.thr_huff.specs.CodeTree.{code_tree}
use Rattle.thr_huff.proofs.TableLemmas.{entry_of-leaf, entry_of-none, entry_of-side}
use Rattle.thr_huff.proofs.book.+look_up.Goals as goal

pub returns-in-Leaf-clause-value : goal.returns-in-Leaf-clause-value
unfolding code_tree
returns-in-Leaf-clause-value t c = rw c.in-Leaf.is (entry_of-leaf c.in-Leaf.token _)

pub returns-then-n-eq0-clause-value : goal.returns-then-n-eq0-clause-value
unfolding code_tree
returns-then-n-eq0-clause-value t c =
    rw c.in-Branch.is (entry_of-none (code_tree c.in-Branch.left.value) (code_tree c.in-Branch.right.value) c.args.n c.args.window (omega arith))

pub returns-then-window-n-eq1-clause-value : goal.returns-then-window-n-eq1-clause-value
unfolding code_tree
returns-then-window-n-eq1-clause-value t c =
    rw (c.in-Branch.is, c.from_below.ensures)
    (entry_of-side true (code_tree c.in-Branch.left.value) (code_tree c.in-Branch.right.value) c.args.n c.args.window c.look_up.result (omega arith)
    (eq-eqb _ _ c.if-window-n-eq1.true) (rw (← c.deref.ensures) c.look_up.ensures.value))

pub returns-else-window-n-eq1-clause-value : goal.returns-else-window-n-eq1-clause-value
unfolding code_tree
returns-else-window-n-eq1-clause-value t c =
    rw (c.in-Branch.is, c.from_below-else-window-n-eq1.ensures)
    (entry_of-side false (code_tree c.in-Branch.left.value) (code_tree c.in-Branch.right.value) c.args.n c.args.window c.look_up-else-window-n-eq1.result (omega arith)
    (ne_eqb _ _ c.if-window-n-eq1.false) (rw (← c.deref-else-window-n-eq1.ensures) c.look_up-else-window-n-eq1.ensures.value))
