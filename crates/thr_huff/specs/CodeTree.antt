-- Trees of Huffman codes (Theora I, 6.4.4).
use Rattle.std.specs.Prelude.{ℕ}
use Rattle.thr_huff.specs.declared.tree.Tree.{Tree, Leaf, Branch'}

-- a leaf with its token, or two trees: the first for a bit 0, the other for a bit 1
pub data CodeTree : Type 0 where
  Token : ℕ → CodeTree
  Fork : CodeTree → CodeTree → CodeTree

-- a tree in memory, wherever its parts lie
unfoldable pub code_tree : Tree → CodeTree
code_tree (Leaf token) = Token token
code_tree (Branch' _ left _ right) = Fork (code_tree left) (code_tree right)
