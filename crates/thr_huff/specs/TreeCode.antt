-- A tree as a list of numbers, by which its values are told apart (own). The model of a forest needs it, with its law.
use Rattle.std.proofs.Common.{◌≡◌, ℕ, List, [], ◌∷◌, ◌++◌, Option, Some, None, refl, ap, sym, ◌∙◌, append_assoc}
use Rattle.std.proofs.lemmas.List.{append-nil}
use Rattle.std.specs.Coded.{Coded, code_by, coded_list, coded_option, coded_ℕ}
use Rattle.thr_huff.specs.CodeTree.{CodeTree, Token, Fork}

-- the tokens in reading order, and a mark behind the two trees of each branch
unfoldable pub listed : CodeTree → List (Option ℕ)
listed (Token token) = Some token ∷ []
listed (Fork left right) = listed left ++ (listed right ++ None ∷ [])

-- the trees that such a list stands for, the last first
unfoldable pub unlisted : List (Option ℕ) → List CodeTree → List CodeTree
unlisted [] trees = trees
unlisted (Some token ∷ marks) trees = unlisted marks (Token token ∷ trees)
unlisted (None ∷ marks) [] = unlisted marks []
unlisted (None ∷ marks) (right ∷ []) = unlisted marks []
unlisted (None ∷ marks) (right ∷ (left ∷ trees)) = unlisted marks (Fork left right ∷ trees)

-- the first of some trees
unfoldable pub first_tree : List CodeTree → CodeTree
first_tree [] = Token 0
first_tree (tree ∷ trees) = tree

-- a tree's list stands for that tree, whatever follows it
unlisted-listed : (tree : CodeTree) (marks : List (Option ℕ)) (trees : List CodeTree) → unlisted (listed tree ++ marks) trees ≡ unlisted marks (tree ∷ trees)
unfolding listed unlisted
unlisted-listed (Token token) marks trees = refl
unlisted-listed (Fork left right) marks trees =
    ap (λ m. unlisted m trees) (append_assoc (listed left) (listed right ++ None ∷ []) marks ∙ ap (λ m. listed left ++ m) (append_assoc (listed right) (None ∷ []) marks))
    ∙ unlisted-listed left (listed right ++ (None ∷ marks)) trees
    ∙ unlisted-listed right (None ∷ marks) (left ∷ trees)

-- so the list alone gives the tree back
pub listed_back : (tree : CodeTree) → first_tree (unlisted (listed tree) []) ≡ tree
unfolding unlisted first_tree
listed_back tree = ap (λ m. first_tree (unlisted m [])) (sym (append-nil (listed tree))) ∙ ap first_tree (unlisted-listed tree [] [])

-- by its list a tree is told apart from others, and so are lists of trees
abbrev pub tree_code : Coded CodeTree
tree_code = code_by (List (Option ℕ)) (coded_list (coded_option coded_ℕ)) listed (λ marks. first_tree (unlisted marks [])) listed_back

abbrev pub forest_code : Coded (List CodeTree)
forest_code = coded_list tree_code
