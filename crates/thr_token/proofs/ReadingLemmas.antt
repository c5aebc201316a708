-- A frame's blocks before their first tokens, and their results, as the lists that are lent. `read_tokens_in` and `read_tokens_with` cite these.
use Rattle.std.proofs.Common.{◌≡◌, ◌<◌, ℕ, ℤ, pos, Bool, List, [], ◌∷◌, length, map, replicate, refl, ap, sym, subst, arith, ◌∙◌, Ok, Err}
use Rattle.std.proofs.lemmas.List.{length-map}
use Rattle.vid_base.specs.declared.shape.Shape.{Shape}
use Rattle.vid_geom.specs.declared.block.Block.{Block}
use Rattle.vid_geom.specs.CodedOrder.{block_grid, order_of}
use Rattle.vid_geom.specs.Tables.{IsSmall}
use Rattle.vid_geom.proofs.OrderLemmas.{length-order_of}
use Rattle.vid_geom.proofs.SizeLemmas.{block_grid_small}
use Rattle.thr_token.specs.Coefficients.{TableNumbers, Progress, at_place, coefficients, first_place, is_luma, numbers_in, places, results_of, token_in, untouched, untouched_blocks}
use Rattle.vid_base.specs.declared.fault.PacketFault.{PacketFault}
use Rattle.thr_huff.specs.CodeTree.{CodeTree}
use Rattle.thr_token.specs.Listing.{IsListing, blocks_by, listed, places_in}
use Rattle.thr_token.specs.Standing.{lumas_of, standing}
use Rattle.thr_token.proofs.ListingLemmas.{first_listed, length-places_in}
use Rattle.thr_token.proofs.StandingLemmas.{AreEven, counts_in, values_in}

-- the lists of blocks before their first tokens
pub untouched_is : (blocks : List Block) (flags : List Bool) → length flags ≡ length blocks
    → standing (map is_luma blocks) (map first_place flags) (replicate (length flags) (replicate 64 (pos 0))) (replicate (length flags) 0) ≡ untouched_blocks blocks flags
unfolding standing untouched_blocks
untouched_is [] flags h = refl
untouched_is (b ∷ blocks) [] h = refl
untouched_is (b ∷ blocks) (coded ∷ flags) h = ap (λ others. untouched (is_luma b) coded ∷ others) (untouched_is blocks flags (omega arith))

-- the results of blocks are the lists of their values and counts
pub results_is : (s : Shape) (places : List ℕ) (values : List (List ℤ)) (counts : List ℕ) → length places ≡ length (order_of s) → length values ≡ length (order_of s) → length counts ≡ length (order_of s)
    → results_of (standing (lumas_of s) places values counts) ≡ (values, counts)
results_is s places values counts p v c =
    let size = length-map (order_of s) is_luma in
    let even : AreEven (lumas_of s) places values counts = record { places_are = omega arith; values_are = omega arith; counts_are = omega arith } in
    rw (values_in (lumas_of s) places values counts even, counts_in (lumas_of s) places values counts even) refl

-- the same of blocks whose words are listed
pub listed_untouched_is : (s : Shape) (flags : List Bool) → length flags ≡ length (order_of s)
    → blocks_by (lumas_of s) (listed 0 (map first_place flags)) (replicate (length (order_of s)) (replicate 64 (pos 0))) (replicate (length flags) 0) ≡ untouched_blocks (order_of s) flags
listed_untouched_is s flags h =
    let long : length (lumas_of s) ≡ length flags = length-map (order_of s) is_luma ∙ sym h in
    ap (λ n. standing (lumas_of s) (places_in 0 n (listed 0 (map first_place flags))) (replicate (length (order_of s)) (replicate 64 (pos 0))) (replicate (length flags) 0)) long
    ∙ ap (λ places. standing (lumas_of s) places (replicate (length (order_of s)) (replicate 64 (pos 0))) (replicate (length flags) 0)) (first_listed flags).1
    ∙ ap (λ n. standing (lumas_of s) (map first_place flags) (replicate n (replicate 64 (pos 0))) (replicate (length flags) 0)) (sym h)
    ∙ untouched_is (order_of s) flags h

pub first_listing : (s : Shape) (flags : List Bool) → length flags ≡ length (order_of s) → IsListing (length (lumas_of s)) (listed 0 (map first_place flags))
first_listing s flags h =
    let long : length flags ≡ length (lumas_of s) = h ∙ sym (length-map (order_of s) is_luma) in
    subst (λ n. IsListing n (listed 0 (map first_place flags))) long (first_listed flags).0

pub listed_results_is : (s : Shape) (words : List ℕ) (values : List (List ℤ)) (counts : List ℕ) → length values ≡ length (order_of s) → length counts ≡ length (order_of s)
    → results_of (blocks_by (lumas_of s) words values counts) ≡ (values, counts)
listed_results_is s words values counts v c =
    results_is s (places_in 0 (length (lumas_of s)) words) values counts (length-places_in 0 (length (lumas_of s)) words ∙ length-map (order_of s) is_luma) v c

-- the parts of a frame's tokens one behind the other
pub all_read : (forest : List CodeTree) (s : Shape) (flags bits : List Bool) (dc ac : TableNumbers) (first all : List Progress) (run rest : ℕ) (one two three left : List Bool)
    → numbers_in bits ≡ Ok (dc, one) → at_place (token_in forest dc) 0 [] (untouched_blocks (order_of s) flags) 0 one ≡ Ok ((first, run), two)
    → numbers_in two ≡ Ok (ac, three) → places (token_in forest ac) 63 1 first run three ≡ Ok ((all, rest), left)
    → coefficients forest s flags bits ≡ Ok (results_of all, left)
unfolding coefficients places
all_read forest s flags bits dc ac first all run rest one two three left a b c d = rw (a, b, c, d) refl

-- and a fault in the last of them
pub last_fault : (forest : List CodeTree) (s : Shape) (flags bits : List Bool) (dc ac : TableNumbers) (first : List Progress) (run : ℕ) (one two three : List Bool) (fault : PacketFault)
    → numbers_in bits ≡ Ok (dc, one) → at_place (token_in forest dc) 0 [] (untouched_blocks (order_of s) flags) 0 one ≡ Ok ((first, run), two)
    → numbers_in two ≡ Ok (ac, three) → places (token_in forest ac) 63 1 first run three ≡ Err fault
    → coefficients forest s flags bits ≡ Err fault
unfolding coefficients places
last_fault forest s flags bits dc ac first run one two three fault a b c d = rw (a, b, c, d) refl

-- faults before them
pub dc_fault : (forest : List CodeTree) (s : Shape) (flags bits : List Bool) (fault : PacketFault) → numbers_in bits ≡ Err fault → coefficients forest s flags bits ≡ Err fault
unfolding coefficients
dc_fault forest s flags bits fault a = rw a refl

pub first_fault : (forest : List CodeTree) (s : Shape) (flags bits : List Bool) (dc : TableNumbers) (one : List Bool) (fault : PacketFault)
    → numbers_in bits ≡ Ok (dc, one) → at_place (token_in forest dc) 0 [] (untouched_blocks (order_of s) flags) 0 one ≡ Err fault
    → coefficients forest s flags bits ≡ Err fault
unfolding coefficients places
first_fault forest s flags bits dc one fault a b = rw (a, b) refl

pub ac_fault : (forest : List CodeTree) (s : Shape) (flags bits : List Bool) (dc : TableNumbers) (first : List Progress) (run : ℕ) (one two : List Bool) (fault : PacketFault)
    → numbers_in bits ≡ Ok (dc, one) → at_place (token_in forest dc) 0 [] (untouched_blocks (order_of s) flags) 0 one ≡ Ok ((first, run), two)
    → numbers_in two ≡ Err fault → coefficients forest s flags bits ≡ Err fault
unfolding coefficients places
ac_fault forest s flags bits dc first run one two fault a b c = rw (a, b, c) refl

-- no frame has so many blocks
pub few_blocks : (s : Shape) → length (order_of s) < 67108864
few_blocks s =
    let a : IsSmall (block_grid s 0) = block_grid_small s 0 in
    let b : IsSmall (block_grid s 1) = block_grid_small s 1 in
    let d : IsSmall (block_grid s 2) = block_grid_small s 2 in
    omega (arith, length-order_of s, a.2, b.2, d.2)
