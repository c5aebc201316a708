-- Tokens and trees are read from the front. The laws cite these, and so do readers of whole packets.
use Rattle.std.proofs.Common.{◌≡◌, ◌<◌, ◌+◌, ℕ, zero, suc, inl, inr, Bool, true, false, List, [], ◌∷◌, ◌++◌, length, nat_lt, Option, Some, None, Ok, Err, refl, ap, sym}
use Rattle.std.specs.Prelude.{if◌then◌else◌}
use Rattle.vid_base.specs.declared.fault.PacketFault.TheVariants.{TreeDeep, TreeLeaves}
use Rattle.vid_base.specs.Fronts.{chained, ReadsFront}
use Rattle.vid_base.specs.Reading.{field, one_bit, or_ended, ◌>>=◌}
use Rattle.vid_base.proofs.FrontLemmas.{Read, front-value, front-fault, front-if, front-same, front-field, front-bit, front-then, front-items}
use Rattle.thr_huff.specs.CodeTree.{CodeTree, Token, Fork}
use Rattle.thr_huff.specs.Codes.{codes_of, front_token, token_read}
use Rattle.thr_huff.specs.Trees.{leaf_at, tree_at, forest_at}
use Rattle.thr_huff.proofs.CodeLemmas.{front_token-leaf, front_token-end, front_token-left, front_token-right}

-- the tree that a bit leads into
by_bit : CodeTree → CodeTree → Bool × List Bool → Read ℕ
by_bit left right bit = if bit.0 then token_read (codes_of right) bit.1 else token_read (codes_of left) bit.1

same-fork : (left right : CodeTree) (bits : List Bool) → chained one_bit (by_bit left right) bits ≡ token_read (codes_of (Fork left right)) bits
unfolding one_bit by_bit token_read
same-fork left right [] = sym (ap or_ended (front_token-end left right [] refl))
same-fork left right (true ∷ bits) = sym (ap or_ended (front_token-right left right (true ∷ bits) bits refl))
same-fork left right (false ∷ bits) = sym (ap or_ended (front_token-left left right (false ∷ bits) bits refl))

same-leaf : (token : ℕ) (bits : List Bool) → Ok (token, bits) ≡ token_read (codes_of (Token token)) bits
unfolding token_read
same-leaf token bits = sym (ap or_ended (front_token-leaf token bits))

-- a token
pub front-token : (tree : CodeTree) → ReadsFront (token_read (codes_of tree))
unfolding by_bit
front-token (Token token) = front-same (λ bits. Ok (token, bits)) (token_read (codes_of (Token token))) (same-leaf token) (front-value token)
front-token (Fork left right) =
    front-same (chained one_bit (by_bit left right)) (token_read (codes_of (Fork left right))) (same-fork left right)
    (front-then one_bit (by_bit left right) front-bit
    (λ bit. front-if bit (token_read (codes_of right)) (token_read (codes_of left)) (front-token right) (front-token left)))

-- a tree behind its first bit
behind_bit : ℕ → ℕ → Bool × List Bool → Read CodeTree
behind_bit levels leaves bit =
    if bit.0 then leaf_at leaves bit.1
    else (tree_at levels leaves bit.1 >>= (λ left. tree_at levels (leaves + length (codes_of left.0)) left.1 >>= (λ right. Ok (Fork left.0 right.0, right.1))))

same-tree : (levels leaves : ℕ) (bits : List Bool) → chained one_bit (behind_bit levels leaves) bits ≡ tree_at (suc levels) leaves bits
unfolding one_bit behind_bit tree_at
same-tree levels leaves [] = refl
same-tree levels leaves (true ∷ bits) = refl
same-tree levels leaves (false ∷ bits) = refl

front-leaf : (leaves : ℕ) → ReadsFront (leaf_at leaves)
front-leaf leaves =
    front-if (nat_lt leaves 32) (λ bits. field 5 bits >>= (λ token. Ok (Token token.0, token.1))) (λ bits. Err TreeLeaves)
    (front-then (field 5) (λ token. Ok (Token token.0, token.1)) (front-field 5) (λ token. front-value (Token token))) (front-fault TreeLeaves)

front-none : (leaves : ℕ) → ReadsFront (tree_at 0 leaves)
unfolding tree_at
front-none leaves = front-fault TreeDeep

pub front-tree : (levels leaves : ℕ) → ReadsFront (tree_at levels leaves)
unfolding behind_bit
front-tree zero leaves = front-none leaves
front-tree (suc levels) leaves =
    front-same (chained one_bit (behind_bit levels leaves)) (tree_at (suc levels) leaves) (same-tree levels leaves)
    (front-then one_bit (behind_bit levels leaves) front-bit
    (λ bit. front-if bit (leaf_at leaves) (λ bits. tree_at levels leaves bits >>= (λ left. tree_at levels (leaves + length (codes_of left.0)) left.1 >>= (λ right. Ok (Fork left.0 right.0, right.1))))
    (front-leaf leaves)
    (front-then (tree_at levels leaves) (λ left. tree_at levels (leaves + length (codes_of left.0)) left.1 >>= (λ right. Ok (Fork left.0 right.0, right.1))) (front-tree levels leaves)
    (λ left. front-then (tree_at levels (leaves + length (codes_of left))) (λ right. Ok (Fork left right.0, right.1)) (front-tree levels (leaves + length (codes_of left))) (λ right. front-value (Fork left right))))))

-- all trees
pub front-forest : ReadsFront forest_at
unfolding forest_at
front-forest = front-items (tree_at 33 0) 80 (front-tree 33 0)

-- a token that was read is read where more bits follow
pub front_token-more : (tree : CodeTree) (token : ℕ) (bits left more : List Bool) → front_token (codes_of tree) bits ≡ Some (token, left) → front_token (codes_of tree) (bits ++ more) ≡ Some (token, left ++ more)
unfolding token_read
front_token-more tree token bits left more e =
    let all = (front-token tree).front bits more in
    let read = rw e at all in
    found (front_token (codes_of tree) (bits ++ more)) (token, left ++ more) read
  where
    found : (taken : Option (ℕ × List Bool)) (y : ℕ × List Bool) → or_ended taken ≡ Ok y → taken ≡ Some y
    found None y e = cc
    found (Some x) y e = cc

-- where no code was whole, a token that is read of more bits takes some of them
pub front_token-cut : (tree : CodeTree) (token : ℕ) (bits left more : List Bool) → front_token (codes_of tree) bits ≡ None → front_token (codes_of tree) (bits ++ more) ≡ Some (token, left) → length left < length more
unfolding token_read
front_token-cut tree token bits left more e f =
    let all = (front-token tree).front bits more in
    let short = rw (e, f) at all in
    elim short [
      | inl wrong ↦ cc
      | inr less ↦ less.1
    ]
