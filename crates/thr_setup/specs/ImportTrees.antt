-- The trees of the setup of streams that are made here, and their codes (own). hti is the number of a tree, 0 to 79.
-- Tokens stand by rank: the first has the shortest code.
use Rattle.std.specs.Prelude.{ℕ, zero, suc, ◌^◌, ◌%◌, ◌==◌, Bool, true, false, List, ◌∷◌, map, take, drop, slice_index, nat_lt, if◌then◌else◌}
use Rattle.std.specs.List.{range_with_len}
use Rattle.vid_base.specs.Bits.{digits}
use Rattle.thr_huff.specs.CodeTree.{CodeTree, Token, Fork}
use Rattle.thr_huff.specs.Codes.{Codes}
use Rattle.thr_setup.specs.Tables.{in_order, by_rank_1, by_rank_2, by_rank_3}

-- the code of a rank: `0` and 1 bit, `10` and 1 bit, `110` and 2 bits, `1110` and 3 bits, `1111` and 4 bits, which count up
unfoldable pub code_of_rank : ℕ → List Bool
code_of_rank rank =
    if nat_lt rank 2 then false ∷ digits 1 rank
    else if nat_lt rank 4 then true ∷ false ∷ digits 1 rank
    else if nat_lt rank 8 then true ∷ true ∷ false ∷ digits 2 rank
    else if nat_lt rank 16 then true ∷ true ∷ true ∷ false ∷ digits 3 rank
    else true ∷ true ∷ true ∷ true ∷ digits 4 rank

-- the codes of 32 tokens by rank
unfoldable pub ranked_codes : List ℕ → Codes
ranked_codes tokens = map (λ rank. (code_of_rank rank, slice_index tokens rank)) in_order

-- token t has the 5-bit code t
unfoldable pub plain_codes : Codes
plain_codes = map (λ token. (digits 5 token, token)) in_order

-- the codes of the tree of a number, 0 to 15, in each group
unfoldable pub import_codes : ℕ → Codes
import_codes number =
    if number == 1 then ranked_codes by_rank_1
    else if number == 2 then ranked_codes by_rank_2
    else if number == 3 then ranked_codes by_rank_3
    else plain_codes

-- the tree of tokens whose codes all have n bits and count up
unfoldable pub counting_up : ℕ → List ℕ → CodeTree
counting_up zero tokens = Token (slice_index tokens 0)
counting_up (suc n) tokens = Fork (counting_up n (take (2 ^ n) tokens)) (counting_up n (drop (2 ^ n) tokens))

-- the tree of 32 tokens by rank
unfoldable pub ranked_tree : List ℕ → CodeTree
ranked_tree tokens =
    Fork
    (counting_up 1 (take 2 tokens))
    (Fork (counting_up 1 (take 2 (drop 2 tokens))) (Fork (counting_up 2 (take 4 (drop 4 tokens))) (Fork (counting_up 3 (take 8 (drop 8 tokens))) (counting_up 4 (take 16 (drop 16 tokens))))))

-- the tree of a number in each group
unfoldable pub import_tree : ℕ → CodeTree
import_tree number =
    if number == 1 then ranked_tree by_rank_1
    else if number == 2 then ranked_tree by_rank_2
    else if number == 3 then ranked_tree by_rank_3
    else counting_up 5 in_order

-- all trees: number n of group g is tree 16 g + n
unfoldable pub import_forest : List CodeTree
import_forest = map (λ hti. import_tree (hti % 16)) (range_with_len 0 80)
