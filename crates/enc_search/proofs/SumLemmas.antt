-- Sums over the blocks of a macro block. The search and the choice cite these.
use Rattle.std.proofs.Common.{◌≡◌, ◌∙◌, ℕ, zero, suc, ◌+◌, ◌<◌, List, [], ◌∷◌, length, get_or, sum, sum_by, All, refl, ap, sym, arith}
use Rattle.std.proofs.Math.Nat.{zero-add}
use Rattle.std.proofs.lemmas.List.Sums.{sum-map}
use Rattle.vid_geom.specs.declared.block.Block.{Block}
use Rattle.vid_geom.proofs.ListLemmas.{map_agree}
use Rattle.vid_plane.specs.declared.frame.Frame.{Frame}
use Rattle.thr_recon.specs.Rebuilt.{block_of}
use Rattle.enc_search.specs.Searched.{Samples, block_distance, block_samples, luma_distance, row_distance}

-- an element, whatever stands for a missing one
pub get_or_any : {X : Type 0} (xs : List X) (k : ℕ) (d e : X) → k < length xs → get_or xs k d ≡ get_or xs k e
get_or_any [] k d e h = absurd (omega arith)
get_or_any (x ∷ xs) zero d e h = refl
get_or_any (x ∷ xs) (suc k) d e h = get_or_any xs k d e (omega arith)

-- a sum of four
pub four_sum : {X : Type 0} (f : X → ℕ) (xs : List X) (d : X) → length xs ≡ 4 → sum_by f xs ≡ f (get_or xs 0 d) + f (get_or xs 1 d) + f (get_or xs 2 d) + f (get_or xs 3 d)
four_sum f [] d h = absurd (omega arith)
four_sum f (a ∷ []) d h = absurd (omega arith)
four_sum f (a ∷ b ∷ []) d h = absurd (omega arith)
four_sum f (a ∷ b ∷ c ∷ []) d h = absurd (omega arith)
four_sum f (a ∷ b ∷ c ∷ e ∷ []) d h = ap (λ n. n + f b + f c + f e) (zero-add (f a))
four_sum f (a ∷ b ∷ c ∷ e ∷ g ∷ xs) d h = absurd (omega arith)

-- sums of what is the same for each element
pub same_sum : {X : Type 0} (f g : X → ℕ) (xs : List X) → All (λ x. f x ≡ g x) xs → sum_by f xs ≡ sum_by g xs
same_sum f g xs all = sym (sum-map f xs) ∙ ap sum (map_agree f g xs all) ∙ sum-map g xs

-- the distance of four blocks
pub luma_four : (target : Frame) (P : Block → Samples) (blocks : List Block) (d : Block) → length blocks ≡ 4
    → luma_distance target P blocks
    ≡ block_distance (block_samples target (get_or blocks 0 d)) (P (get_or blocks 0 d)) + block_distance (block_samples target (get_or blocks 1 d)) (P (get_or blocks 1 d))
    + block_distance (block_samples target (get_or blocks 2 d)) (P (get_or blocks 2 d)) + block_distance (block_samples target (get_or blocks 3 d)) (P (get_or blocks 3 d))
unfolding luma_distance
luma_four target P blocks d h = four_sum (λ b. block_distance (block_samples target b) (P b)) blocks d h

-- the distance of blocks that stand in rows
pub rows_distance : (f g : Samples) → block_distance (λ u v. get_or (get_or (block_of f) v []) u 0) (λ u v. get_or (get_or (block_of g) v []) u 0) ≡ block_distance f g
unfolding block_distance row_distance block_of
rows_distance f g = refl
