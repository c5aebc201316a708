-- The headers of streams that are made here: what they say, and that they are short. `SoundLemmas` cites these.
use Rattle.std.proofs.Common.{◌≡◌, ℕ, ◌*◌, ◌%◌, ◌^◌, ◌≤◌, Bool, true, false, cond, nat_eq, List, [], ◌∷◌, ◌++◌, length, length-append, map, IsOk, refl, ap, arith}
use Rattle.std.specs.Int.Count.{count_leading_zeros}
use Rattle.std.specs.List.{flat_map, range_with_len}
use Rattle.vid_base.specs.Bits.{digits, to_byte, zeros}
use Rattle.vid_base.specs.Items.{all_digits}
use Rattle.vid_base.proofs.DigitLemmas.{length-zeros}
use Rattle.vid_base.specs.Rules.{first_fault}
use Rattle.thr_ident.specs.Comment.{after_comments, after_text, after_texts, comment_bytes, comment_of, comment_rules, length_in, own_comment}
use Rattle.thr_quant.specs.Limits.{limits_bits, width_of}
use Rattle.thr_quant.specs.Ramps.{matrices_bits, matrix_list_bits, pair_bits, pairs_bits, ramps_bits, scales_bits}
use Rattle.thr_quant.specs.Ranges.{list_bits, range_bits, ranges_bits}
use Rattle.thr_huff.specs.Trees.{forest_bits, tree_bits}
use Rattle.thr_setup.specs.Import.{even_scales, import_limits, import_matrix, import_ramps, imported}
use Rattle.thr_setup.specs.ImportTrees.{counting_up, import_forest, import_tree, ranked_tree}
use Rattle.thr_setup.specs.Setup.{bytes_of, fields_bits, filled, packet_of}
use Rattle.thr_setup.specs.Tables.{by_rank_1, by_rank_2, by_rank_3, in_order}

-- a tree of 32 tokens has 31 forks and 32 leaves of six bits
tree_short : (number : ℕ) → length (tree_bits (import_tree number)) ≡ 223
unfolding import_tree tree_bits counting_up ranked_tree by_rank_1 by_rank_2 by_rank_3 digits
tree_short number = go (nat_eq number 1) (nat_eq number 2) (nat_eq number 3)
  where
    go : (a b c : Bool) → length (tree_bits (cond a (ranked_tree by_rank_1) (cond b (ranked_tree by_rank_2) (cond c (ranked_tree by_rank_3) (counting_up 5 in_order))))) ≡ 223
    go true b c = refl
    go false true c = refl
    go false false true = refl
    go false false false = refl

trees_short : (numbers : List ℕ) → length (flat_map tree_bits (map (λ hti. import_tree (hti % 16)) numbers)) ≡ 223 * length numbers
trees_short [] = refl
trees_short (n ∷ ns) = omega (arith, length-append (tree_bits (import_tree (n % 16))) (flat_map tree_bits (map (λ hti. import_tree (hti % 16)) ns)), tree_short (n % 16), trees_short ns)

forest_short : length (forest_bits import_forest) ≡ 17840
unfolding forest_bits import_forest
forest_short = trees_short (range_with_len 0 80)

limits_short : length (limits_bits import_limits) ≡ 323
unfolding limits_bits width_of all_digits digits import_limits count_leading_zeros
limits_short = refl

ramps_short : length (ramps_bits import_ramps) ≡ 1695
unfolding ramps_bits scales_bits width_of all_digits digits even_scales matrices_bits matrix_list_bits import_matrix pairs_bits pair_bits ranges_bits list_bits range_bits count_leading_zeros
ramps_short = refl

-- eight bits make a byte
bytes_short : (bits : List Bool) → length (bytes_of bits) ≤ length bits
unfolding bytes_of
bytes_short (a ∷ b ∷ c ∷ d ∷ e ∷ f ∷ g ∷ h ∷ bits) = omega (arith, bytes_short bits)
bytes_short [] = omega arith
bytes_short (a ∷ []) = omega arith
bytes_short (a ∷ b ∷ []) = omega arith
bytes_short (a ∷ b ∷ c ∷ []) = omega arith
bytes_short (a ∷ b ∷ c ∷ d ∷ []) = omega arith
bytes_short (a ∷ b ∷ c ∷ d ∷ e ∷ []) = omega arith
bytes_short (a ∷ b ∷ c ∷ d ∷ e ∷ f ∷ []) = omega arith
bytes_short (a ∷ b ∷ c ∷ d ∷ e ∷ f ∷ g ∷ []) = omega arith

fields_short : length (fields_bits imported) ≡ 19858
unfolding fields_bits
fields_short =
    let limits = limits_bits import_limits in
    let ramps = ramps_bits import_ramps in
    let forest = forest_bits import_forest in
    let is : fields_bits imported ≡ (limits ++ ramps) ++ forest = refl in
    omega (arith, ap length is, length-append (limits ++ ramps) forest, length-append limits ramps, limits_short, ramps_short, forest_short)

pub setup_short : length (packet_of imported) ≤ 2 ^ 30
unfolding packet_of
setup_short =
    let bits = fields_bits imported in
    omega (arith, bytes_short (filled bits), length-append bits (zeros (to_byte (length bits))), length-zeros (to_byte (length bits)), fields_short)

-- the comment header
pub comment_short : length own_comment ≤ 2 ^ 30
unfolding own_comment comment_bytes
comment_short = omega arith

pub comment_sound : IsOk (comment_of own_comment)
unfolding own_comment comment_bytes comment_of comment_rules after_comments after_text after_texts length_in first_fault
comment_sound = refl
