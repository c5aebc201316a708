-- Trees in a setup header: which bits are read as a tree, and which bits a tree writes (Theora I, 6.4.4).
use Rattle.std.specs.Prelude.{◌≡◌, ◌≤◌, ◌<◌, ◌+◌, ℕ, zero, suc, Bool, true, false, List, [], ◌∷◌, ◌++◌, length, All, Result, Ok, Err, nat_lt, if◌then◌else◌}
use Rattle.std.specs.List.{flat_map}
use Rattle.vid_base.specs.declared.fault.PacketFault.{PacketFault}
use Rattle.vid_base.specs.declared.fault.PacketFault.TheVariants.{Ended, TreeDeep, TreeLeaves}
use Rattle.vid_base.specs.Bits.{digits}
use Rattle.vid_base.specs.Reading.{field, ◌>>=◌}
use Rattle.vid_base.specs.Items.{items}
use Rattle.thr_huff.specs.CodeTree.{CodeTree, Token, Fork}
use Rattle.thr_huff.specs.Codes.{codes_of}

-- a leaf's token, where so many leaves were read before
abbrev pub leaf_at : ℕ → List Bool → Result (CodeTree × List Bool) PacketFault
leaf_at leaves bits =
    if nat_lt leaves 32
    then (field 5 bits >>= (λ token. Ok (Token token.0, token.1)))
    else Err TreeLeaves

-- a tree of at most so many levels, where so many leaves were read before: bit 1 and a leaf, or bit 0 and two trees
unfoldable pub tree_at : ℕ → ℕ → List Bool → Result (CodeTree × List Bool) PacketFault
tree_at zero leaves bits = Err TreeDeep
tree_at (suc levels) leaves [] = Err Ended
tree_at (suc levels) leaves (true ∷ bits) = leaf_at leaves bits
tree_at (suc levels) leaves (false ∷ bits) = do
  left ← tree_at levels leaves bits
  right ← tree_at levels (leaves + length (codes_of left.0)) left.1
  Ok (Fork left.0 right.0, right.1)

-- 80 trees, whose codes have at most 32 bits
unfoldable pub forest_at : List Bool → Result (List CodeTree × List Bool) PacketFault
forest_at bits = items (tree_at 33 0) 80 bits

-- what is written for a tree
unfoldable pub tree_bits : CodeTree → List Bool
tree_bits (Token token) = true ∷ digits 5 token
tree_bits (Fork left right) = false ∷ (tree_bits left ++ tree_bits right)

-- what is written for trees one behind the other
unfoldable pub forest_bits : List CodeTree → List Bool
forest_bits forest = flat_map tree_bits forest

-- a tree of at most so many levels, with tokens of 5 bits
pub record FitsLevels (levels : ℕ) (tree : CodeTree) : Type 0 where
  pub short : All (λ code. length code.0 < levels) (codes_of tree)
  pub tokens : All (λ code. code.1 < 32) (codes_of tree)

-- a tree that a setup header can hold
pub record IsTree (tree : CodeTree) : Type 0 where
  pub few : length (codes_of tree) ≤ 32
  pub short : All (λ code. length code.0 ≤ 32) (codes_of tree)
  pub tokens : All (λ code. code.1 < 32) (codes_of tree)

-- 80 such trees
pub record IsForest (forest : List CodeTree) : Type 0 where
  pub count : length forest ≡ 80
  pub each : All IsTree forest
