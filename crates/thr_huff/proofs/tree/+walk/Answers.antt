use Rattle.std.proofs.Common.{rules, ◌≡◌, true, false, ◌∷◌, ap, ◌∙◌}
use Rattle.thr_huff.specs.CodeTree.{code_tree}
use Rattle.thr_huff.proofs.CodeLemmas.{front_token-leaf, front_token-end, front_token-left, front_token-right}
use Rattle.thr_huff.proofs.tree.+walk.Goals as goal

pub returns-in_err-bit-in-Branch-clause-value : goal.returns-in_err-bit-in-Branch-clause-value
unfolding code_tree
returns-in_err-bit-in-Branch-clause-value t c =
    rw (c.in-Branch.is, front_token-end (code_tree c.in-Branch.left.value) (code_tree c.in-Branch.right.value) c.args.r.now.left c.in_err-bit-in-Branch.ensures.value.0) (search rules)

pub returns-in-Leaf-clause-value : goal.returns-in-Leaf-clause-value
unfolding code_tree
returns-in-Leaf-clause-value t c = rw c.in-Leaf.is (front_token-leaf c.in-Leaf.token c.args.r.now.left)

pub returns-then-branch-clause-value : goal.returns-then-branch-clause-value
unfolding code_tree
returns-then-branch-clause-value t c =
    let bits : c.args.r.now.left ≡ true ∷ c.bit.new.self.left = c.in_ok-bit-in-Branch.ensures.value ∙ ap (λ b. b ∷ c.bit.new.self.left) c.if-branch.true in
    rw (c.in-Branch.is, front_token-right (code_tree c.in-Branch.left.value) (code_tree c.in-Branch.right.value) c.args.r.now.left c.bit.new.self.left bits, ← c.deref.ensures) c.walk.ensures.value

pub returns-else-branch-clause-value : goal.returns-else-branch-clause-value
unfolding code_tree
returns-else-branch-clause-value t c =
    let bits : c.args.r.now.left ≡ false ∷ c.bit.new.self.left = c.in_ok-bit-in-Branch.ensures.value ∙ ap (λ b. b ∷ c.bit.new.self.left) c.if-branch.false in
    rw (c.in-Branch.is, front_token-left (code_tree c.in-Branch.left.value) (code_tree c.in-Branch.right.value) c.args.r.now.left c.bit.new.self.left bits, ← c.deref-else-branch.ensures) c.walk-else-branch.ensures.value
