use Rattle.std.proofs.Common.{◌≡◌, Some, None, true, ◌∷◌, length, arith, ap, ◌∙◌, refl}
use Rattle.std.specs.Prelude.{option_map}
use Rattle.std.proofs.lemmas.Bool.{eq-eqb, ne_eqb}
use Rattle.vid_base.specs.Bits.{digits}
use Rattle.thr_huff.specs.Codes.{code_bits, code_of}
use Rattle.thr_huff.specs.CodeTree.{code_tree}
use Rattle.thr_huff.specs.Codes.{codes_of}
use Rattle.thr_huff.proofs.CodeLemmas.{code_of-leaf, code_of-left, code_of-right}
use Rattle.thr_huff.proofs.TreeLemmas.{fewer_left, fewer_right, within_left, within_right, room_left, room_right}
use Rattle.thr_huff.proofs.tree.+code_in.Goals as goal

pub code_in-requires : goal.code_in-requires
unfolding code_tree
code_in-requires t c =
    let short = rw c.in-Branch.is at c.requires in (
      omega (arith, fewer_left (code_tree c.in-Branch.left.value) (code_tree c.in-Branch.right.value), ap (λ tree. length (codes_of (code_tree tree))) c.deref.ensures, ap (λ tree. length (codes_of (code_tree tree))) c.in-Branch.is),
      rw c.deref.ensures (within_left (code_tree c.in-Branch.left.value) (code_tree c.in-Branch.right.value) short),
    )

pub code_in-requires-in-None : goal.code_in-requires-in-None
unfolding code_tree
code_in-requires-in-None t c =
    let short = rw c.in-Branch.is at c.requires in (
      omega (arith, fewer_right (code_tree c.in-Branch.left.value) (code_tree c.in-Branch.right.value), ap (λ tree. length (codes_of (code_tree tree))) c.deref-in-None.ensures, ap (λ tree. length (codes_of (code_tree tree))) c.in-Branch.is),
      rw c.deref-in-None.ensures (within_right (code_tree c.in-Branch.left.value) (code_tree c.in-Branch.right.value) short),
    )

pub longer-requires : goal.longer-requires
unfolding code_tree
longer-requires t c =
    room_left (code_tree c.in-Branch.left.value) (code_tree c.in-Branch.right.value) c.args.token c.in-Some.code (rw c.in-Branch.is at c.requires) (rw (← c.deref.ensures) c.in-Some.ensures)

pub longer-requires-in-None : goal.longer-requires-in-None
unfolding code_tree
longer-requires-in-None t c =
    room_right (code_tree c.in-Branch.left.value) (code_tree c.in-Branch.right.value) c.args.token c.in_ok-code-in-None.code (rw c.in-Branch.is at c.requires)
    (rw (← c.deref-in-None.ensures) c.in_ok-code-in-None.ensures)

pub returns-in-Some : goal.returns-in-Some
unfolding code_tree
returns-in-Some t c =
    rw (c.longer.ensures, c.in-Branch.is) (code_of-left (code_tree c.in-Branch.left.value) (code_tree c.in-Branch.right.value) c.args.token (code_bits c.in-Some.code) (rw (← c.deref.ensures) c.in-Some.ensures))

pub returns-in_ok-code-in-None : goal.returns-in_ok-code-in-None
unfolding code_tree
returns-in_ok-code-in-None t c =
    let right : Some (code_bits c.in_ok-code-in-None.code) ≡ code_of (codes_of (code_tree c.in-Branch.right.value)) c.args.token = rw (← c.deref-in-None.ensures) c.in_ok-code-in-None.ensures in
    rw (c.longer-in-None.ensures, c.in-Branch.is)
    (ap (option_map (λ bits. true ∷ bits)) right ∙ code_of-right (code_tree c.in-Branch.left.value) (code_tree c.in-Branch.right.value) c.args.token (rw (← c.deref.ensures) c.in-None.ensures))

pub returns-in_err-code-in-None : goal.returns-in_err-code-in-None
unfolding code_tree
returns-in_err-code-in-None t c =
    let right : None ≡ code_of (codes_of (code_tree c.in-Branch.right.value)) c.args.token = rw (← c.deref-in-None.ensures) c.in_err-code-in-None.ensures in
    rw (c.from_residual.ensures, c.in-Branch.is)
    (ap (option_map (λ bits. true ∷ bits)) right ∙ code_of-right (code_tree c.in-Branch.left.value) (code_tree c.in-Branch.right.value) c.args.token (rw (← c.deref.ensures) c.in-None.ensures))

pub returns-then-held-token : goal.returns-then-held-token
unfolding code_tree digits
returns-then-held-token t c = rw (c.in-Leaf.is, code_of-leaf c.in-Leaf.held c.args.token, eq-eqb _ _ c.if-held-token.true) refl

pub returns-else-held-token : goal.returns-else-held-token
unfolding code_tree
returns-else-held-token t c = rw (c.in-Leaf.is, code_of-leaf c.in-Leaf.held c.args.token, ne_eqb _ _ c.if-held-token.false) refl
