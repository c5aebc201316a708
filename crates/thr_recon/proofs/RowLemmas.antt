-- Rows and blocks of eight, entry by entry. The calls of `rows`, `Predictor::block` and `rebuild_block` cite these, and crates above.
use Rattle.std.proofs.Common.{◌≡◌, ◌∙◌, ℕ, ℤ, pos, negsuc, ◌+◌, ◌+ℤ◌, ◌*◌, ◌/◌, ◌%◌, ◌^◌, ◌<◌, List, [], ◌∷◌, length, get_or, map, replicate, refl, sym, ap, arith}
use Rattle.std.specs.List.{range_with_len}
use Rattle.std.specs.Int.{int_max, int_min, w16}
use Rattle.std.proofs.lemmas.Int.{ints, clamps}
use Rattle.std.proofs.lemmas.Simd.{get_or_narrower, get_or-zip2, length-zip2, get_or-replicate, length-replicate}
use Rattle.std.proofs.lemmas.List.FromFn.{get_or-map-range_with_len}
use lib.Lanes.{Each1, number_l, digits_l, zip2}
use mir.Val.{of_z}
use Rattle.thr_recon.specs.Rebuilt.{block_of, rebuilt, sample_of}

-- the low byte of a lane
pub low_byte : (row : List ℕ) (j k : ℕ) → k ≡ 2 * j → k < 16 → Each1 (λ x. x < 65536) row → get_or (digits_l 256 16 (number_l 65536 row)) k 0 ≡ get_or row j 0 % 256
low_byte row j k e below each =
    let s : k ≡ 2 * j + 0 = omega arith in
    let t : get_or row j 0 / 1 % 256 ≡ get_or row j 0 % 256 = omega arith in
    ap (λ i. get_or (digits_l 256 16 (number_l 65536 row)) i 0) s ∙ get_or_narrower 65536 2 256 16 row j 0 refl each (omega arith) (omega arith) ∙ t

pub low_is : (m w : ℕ) → m ≡ w → m < 256 → m % 256 ≡ w
low_is m w e below = omega arith

-- a sample of a block
pub get_or-block_of : (f : ℕ → ℕ → ℕ) (u v : ℕ) → u < 8 → v < 8 → get_or (get_or (block_of f) v []) u 0 ≡ f u v
unfolding block_of
get_or-block_of f u v across upwards =
    ap (λ row. get_or row u 0) (get_or-map-range_with_len (λ v. map (λ u. f u v) (range_with_len 0 8)) 0 8 v v [] upwards (omega arith))
    ∙ get_or-map-range_with_len (λ u. f u v) 0 8 u u 0 across (omega arith)

-- eight numbers, each equal to another
pub eight : {a b c d e f g h p q r s t u v w : ℕ} → a ≡ p → b ≡ q → c ≡ r → d ≡ s → e ≡ t → f ≡ u → g ≡ v → h ≡ w
    → ◌≡◌ {A = List ℕ} (a ∷ b ∷ c ∷ d ∷ e ∷ f ∷ g ∷ h ∷ []) (p ∷ q ∷ r ∷ s ∷ t ∷ u ∷ v ∷ w ∷ [])
eight i j k l m n o x = cc

-- a block that is read sample by sample is that block
pub rebuilt_again : (f : ℕ → ℕ → ℕ) (r : List ℤ) → block_of (rebuilt (λ u v. get_or (get_or (block_of f) v []) u 0) r) ≡ block_of (rebuilt f r)
unfolding block_of rebuilt
rebuilt_again f r = refl

-- a sum that is bounded twice
pub bounded_sum : (s m : ℕ) (z y x : ℤ) → s < 256 → y ≡ int_max (negsuc 254) (int_min z (pos 255)) → x ≡ int_max (pos 0) (int_min (pos s +ℤ y) (pos 255)) → m ≡ of_z w16 x
    → m ≡ sample_of (pos s +ℤ z)
unfolding sample_of
bounded_sum s m z y x small inner outer e = omega (arith, ints, clamps)

-- the mean of two lanes
pub lane_mean : (p q a b : List ℕ) (k : ℕ) → p ≡ a → q ≡ b → length a ≡ 8 → length b ≡ 8 → k < 8 → get_or a k 0 < 256 → get_or b k 0 < 256
    → get_or (zip2 (λ x s. x / 2 ^ s) (zip2 (λ x y. (x + y) % 65536) p q) (replicate 8 1)) k 0 % 256 ≡ (get_or a k 0 + get_or b k 0) / 2
lane_mean p q a b k e h long_a long_b inside small_a small_b =
    let sums : List ℕ = zip2 (λ x y. (x + y) % 65536) a b in
    let long : length sums ≡ 8 = length-zip2 (λ x y. (x + y) % 65536) a b (long_a ∙ sym long_b) ∙ long_a in
    let sum : get_or sums k 0 ≡ (get_or a k 0 + get_or b k 0) % 65536 = get_or-zip2 (λ x y. (x + y) % 65536) a b k 0 0 0 (omega arith) (omega arith) in
    let ones : List ℕ = replicate 8 1 in
    let one : get_or ones k 0 ≡ 1 = get_or-replicate {A = ℕ} 8 k 1 0 inside in
    let eight_ones : length ones ≡ 8 = length-replicate {A = ℕ} 8 1 in
    let half : get_or (zip2 (λ x s. x / 2 ^ s) sums ones) k 0 ≡ get_or sums k 0 / 2 ^ get_or ones k 0
    = get_or-zip2 (λ x s. x / 2 ^ s) sums ones k 0 0 0 (omega arith) (omega arith) in
    rw (e, h, half, sum, one) (omega arith)
