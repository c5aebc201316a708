use Rattle.std.proofs.Common.{◌≡◌, ◌∷◌, false, ◌-◌, length, arith, ap, ◌∙◌, refl}
use Rattle.std.proofs.lemmas.Result.{err_from_is_err_and}
use Rattle.thr_huff.specs.CodeTree.{code_tree}
use Rattle.thr_huff.specs.Codes.{codes_of}
use Rattle.thr_huff.proofs.TreeLemmas.{length-codes_of, fits_leaf, fits_fork, refused_left, refused_right}
use Rattle.thr_huff.proofs.tree.+read_tree.Goals as goal

pub returns-in_err-left-clause-value : goal.returns-in_err-left-clause-value
returns-in_err-left-clause-value t c =
    let bits : c.args.r.now.left ≡ false ∷ c.bit.new.self.left = c.in_ok-bit.ensures.value ∙ ap (λ b. b ∷ c.bit.new.self.left) c.if-branch.false in
    let exit = err_from_is_err_and c.from_residual-in_err-left.result c.from_residual-in_err-left.ensures.1 in
    rw (exit.1, exit.2) (refused_left code_tree c.in_err-left.field-0.0 c.args.levels c.args.leaves.now c.args.r.now.left c.bit.new.self.left c.read_tree.new.r.left (omega arith) bits c.in_err-left.ensures.value)

pub returns-in_err-right-clause-value : goal.returns-in_err-right-clause-value
returns-in_err-right-clause-value t c =
    let bits : c.args.r.now.left ≡ false ∷ c.bit.new.self.left = c.in_ok-bit.ensures.value ∙ ap (λ b. b ∷ c.bit.new.self.left) c.if-branch.false in
    let exit = err_from_is_err_and c.from_residual-in_err-right.result c.from_residual-in_err-right.ensures.1 in
    rw (exit.1, exit.2)
    (refused_right code_tree c.in_err-right.field-0.0 c.args.levels c.args.leaves.now c.read_tree.new.leaves (code_tree c.in_ok-left.left) c.args.r.now.left c.bit.new.self.left c.read_tree.new.r.left c.read_tree-2.new.r.left
    (omega arith) bits c.in_ok-left.ensures.value c.in_ok-left.ensures.count c.in_err-right.ensures.value)

pub returns-clause-count : goal.returns-clause-count
returns-clause-count t c =
    omega (arith, ap (λ tree. length (codes_of tree)) c.in_ok-branch.ensures, length-codes_of (code_tree c.in_ok-left.left) (code_tree c.in_ok-right.right), c.in_ok-left.ensures.count, c.in_ok-right.ensures.count)

pub returns-clause-fits : goal.returns-clause-fits
returns-clause-fits t c =
    rw c.in_ok-branch.ensures (fits_fork (c.args.levels - 1) c.args.levels (code_tree c.in_ok-left.left) (code_tree c.in_ok-right.right) (omega arith) c.in_ok-left.ensures.fits c.in_ok-right.ensures.fits)

pub returns-then-branch-clause-count : goal.returns-then-branch-clause-count
unfolding codes_of
returns-then-branch-clause-count t c = rw c.leaf.ensures refl

pub returns-then-branch-clause-fits : goal.returns-then-branch-clause-fits
returns-then-branch-clause-fits t c = rw c.leaf.ensures (fits_leaf c.args.levels _ (omega arith) c.in_ok-token.ensures.small)
