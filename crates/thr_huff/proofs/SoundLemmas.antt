-- What was read of trees is what a setup header can hold. The law cites these.
use Rattle.std.proofs.Common.{◌≡◌, ◌≤◌, ◌<◌, ◌+◌, ℕ, zero, suc, Bool, true, false, List, [], ◌∷◌, length, Ok, arith}
use Rattle.std.proofs.Math.Dec.{ltb}
use Rattle.std.proofs.lemmas.Bool.{ltb-true}
use Rattle.vid_base.specs.declared.fault.PacketFault.TheVariants.{TreeLeaves}
use Rattle.vid_base.specs.Reading.{field, ◌>>=◌}
use Rattle.vid_base.proofs.SoundLemmas.{field-small, items-sound, value-is, went_on, where_met}
use Rattle.thr_huff.specs.CodeTree.{CodeTree, Token, Fork}
use Rattle.thr_huff.specs.Codes.{codes_of}
use Rattle.thr_huff.specs.Trees.{tree_at, forest_at, FitsLevels, IsTree, IsForest}
use Rattle.thr_huff.proofs.TreeLemmas.{fits_fork, fits_leaf, is_tree, length-codes_of}

-- a tree of at most so many levels, and few leaves with those that were read before
record IsFitting (levels leaves : ℕ) (tree : CodeTree) : Type 0 where
  pub fits : FitsLevels levels tree
  pub few : leaves + length (codes_of tree) ≤ 32

fitting-leaf : (levels leaves token : ℕ) → leaves < 32 → token < 32 → IsFitting (suc levels) leaves (Token token)
unfolding codes_of
fitting-leaf levels leaves token h k = record { fits = fits_leaf (suc levels) token (omega arith) k; few = omega arith }

fitting-fork : (levels leaves : ℕ) (left right : CodeTree) → IsFitting levels leaves left → IsFitting levels (leaves + length (codes_of left)) right → IsFitting (suc levels) leaves (Fork left right)
fitting-fork levels leaves left right f g = record {
  fits = fits_fork levels (suc levels) left right (omega arith) f.fits g.fits;
  few = omega (arith, length-codes_of left right, g.few);
}

tree-sound : (levels leaves : ℕ) (bits : List Bool) (y : CodeTree × List Bool) → tree_at levels leaves bits ≡ Ok y → IsFitting levels leaves y.0
unfolding tree_at
tree-sound zero leaves bits y e = cc
tree-sound (suc levels) leaves [] y e = cc
tree-sound (suc levels) leaves (true ∷ bits) y e =
    let room = where_met (ltb leaves 32) TreeLeaves (field 5 bits >>= (λ token. Ok (Token token.0, token.1))) y e in
    let token = went_on (field 5 bits) _ y room.1 in
    let same : Token token.0.0 ≡ y.0 = value-is (Token token.0.0) token.0.1 y token.2 in
    rw (← same) (fitting-leaf levels leaves token.0.0 (ltb-true leaves 32 room.0) (field-small 5 bits token.0 token.1))
tree-sound (suc levels) leaves (false ∷ bits) y e =
    let left = went_on (tree_at levels leaves bits) _ y e in
    let right = went_on (tree_at levels (leaves + length (codes_of left.0.0)) left.0.1) _ y left.2 in
    let same : Fork left.0.0 right.0.0 ≡ y.0 = value-is (Fork left.0.0 right.0.0) right.0.1 y right.2 in
    rw (← same) (fitting-fork levels leaves left.0.0 right.0.0 (tree-sound levels leaves bits left.0 left.1) (tree-sound levels (leaves + length (codes_of left.0.0)) left.0.1 right.0 right.1))

pub forest-sound : (bits : List Bool) (y : List CodeTree × List Bool) → forest_at bits ≡ Ok y → IsForest y.0
unfolding forest_at
forest-sound bits y e =
    let trees = items-sound IsTree (tree_at 33 0) (λ more x h. let fitting = tree-sound 33 0 more x h in is_tree x.0 (omega (arith, fitting.few)) fitting.fits) 80 bits y e in
    record { count = trees.0; each = trees.1 }
