-- Products that are cut to 16 bits, and a block of them in natural order. `product`, `products`, `dequantise` and `short_residual` cite these.
use Rattle.std.proofs.Common.{◌≡◌, ◌∙◌, ◌⊎◌, inl, inr, ℕ, zero, suc, ℤ, pos, negsuc, ◌*ℤ◌, ◌≤ℤ◌, ◌+◌, ◌-◌, ◌*◌, ◌%◌, ◌<◌, ◌≤◌, nat_lt, List, ◌++◌, length, get_or, map, replicate, set, refl, sym, ap, arith}
use Rattle.std.specs.Int.{int_wrap, w16, w64}
use Rattle.std.specs.Int.Signed.{shr_z}
use Rattle.std.proofs.lemmas.Int.{ints, wrapping_mul-bits, int_wrap-mul_right}
use Rattle.std.proofs.lemmas.List.{get_or_append_left, get_or-append_right, get_or-map, get_or-set_same, get_or-set_other}
use Rattle.std.proofs.lemmas.Simd.{get_or-replicate}
use Rattle.std.proofs.lemmas.Bool.{cases_lt}
use Rattle.std.proofs.lemmas.List.FromFn.{fill_by_all}
use Rattle.std.proofs.lemmas.List.Sums.{AllPass-from_list_all}
use Rattle.std.proofs.lemmas.Bool.Decides.{Decides-ltb}
use Rattle.thr_dct.specs.Line.{cut, entry}
use Rattle.thr_recon.specs.Residual.{zigzag, product, factor_at, dequantised}
use mir.Val.{SFits, to_z}

-- a number without a sign that is cast is cut
cast_wraps : (q : ℕ) → q < 65536 → to_z w16 q ≡ int_wrap w16 (pos q)
unfolding int_wrap
cast_wraps q small = let e : q ≡ q % 65536 = omega arith in ap (to_z w16) e

-- a product as the code has it
pub product_is : (n q : ℕ) → n < 65536 → q < 65536 → to_z w16 (n * q % 65536) ≡ product (to_z w16 n) q
unfolding product cut
product_is n q small_n small_q =
    wrapping_mul-bits w16 n q small_n small_q
    ∙ ap (λ v. int_wrap w16 (to_z w16 n *ℤ v)) (cast_wraps q small_q)
    ∙ int_wrap-mul_right w16 (to_z w16 n) (pos q)

-- the first number was replaced
pub first_set : (ordered : List ℕ) (dc : ℕ) (ac : List ℕ) (out : List ℤ) (v : ℤ) → length out ≡ 64
    → ((k : ℕ) → k < 64 → entry out k ≡ product (to_z w16 (get_or ordered k 0)) (get_or ac k 0)) → v ≡ product (to_z w16 (get_or ordered 0 0)) dc
    → (p : ℕ) → p < 64 → entry (set out 0 v) p ≡ product (to_z w16 (get_or ordered p 0)) (factor_at dc ac p)
unfolding factor_at
first_set ordered dc ac out v long done e zero below = get_or-set_same out 0 v (pos 0) (omega arith) ∙ e
first_set ordered dc ac out v long done e (suc k) below = get_or-set_other out 0 (suc k) v (pos 0) (omega arith) ∙ done (suc k) below

-- bits are those of the coefficients from that place on
abbrev pub AreBits : List ℤ → ℕ → List ℕ → Type 0
AreBits c from bits = (k : ℕ) → k < 32 → to_z w16 (get_or bits k 0) ≡ entry c (from + k)

-- where the others are zeros
pub zeros_are : (c : List ℤ) (high : List ℕ) → AreBits c 32 high → ((k : ℕ) → k < 32 → get_or high k 0 ≡ 0) → AreBits c 32 (replicate 32 0)
zeros_are c high are zeros k below = ap (to_z w16) (get_or-replicate {A = ℕ} 32 k 0 0 below ∙ sym (zeros k below)) ∙ are k below

-- each place of the zigzag order is one of a block
zigzag_below : (k : ℕ) → k < 64 → get_or zigzag k 0 < 64
zigzag_below k below =
    let l : length zigzag ≡ 64 = refl in
    (Decides-ltb (get_or zigzag k 0) 64).0 (AllPass-from_list_all (λ n. nat_lt n 64) zigzag refl k 0 (omega arith))

-- the coefficient at a place of both halves
at_place : (c : List ℤ) (low high : List ℕ) → length low ≡ 32 → AreBits c 0 low → AreBits c 32 high → (z : ℕ) → z < 64 → to_z w16 (get_or (low ++ high) z 0) ≡ entry c z
at_place c low high long first others z below = by (cases_lt z 32)
  where
    by : (z < 32) ⊎ (32 ≤ z) → to_z w16 (get_or (low ++ high) z 0) ≡ entry c z
    by (inl front) =
        let e : 0 + z ≡ z = omega arith in
        ap (to_z w16) (get_or_append_left low high 0 z (omega arith)) ∙ first z front ∙ ap (entry c) e
    by (inr back) =
        let e : 32 + (z - 32) ≡ z = omega arith in
        ap (to_z w16) (get_or-append_right low high 32 z 0 long back) ∙ others (z - 32) (omega arith) ∙ ap (entry c) e

-- the products of a block whose halves were put into natural order
pub dequantised_is : (c : List ℤ) (dc : ℕ) (ac : List ℕ) (low high ordered : List ℕ) (out : List ℤ) → length low ≡ 32 → AreBits c 0 low → AreBits c 32 high
    → ordered ≡ map (λ z. get_or (low ++ high) z 0) zigzag → length out ≡ 64
    → ((p : ℕ) → p < 64 → entry out p ≡ product (to_z w16 (get_or ordered p 0)) (factor_at dc ac p)) → out ≡ dequantised c dc ac
unfolding dequantised
dequantised_is c dc ac low high ordered out long_low first others is long done =
    let l : length zigzag ≡ 64 = refl in
    let number : (p : ℕ) → p < 64 → to_z w16 (get_or ordered p 0) ≡ entry c (get_or zigzag p 0) = λ p below.
    ap (λ xs. to_z w16 (get_or xs p 0)) is ∙ ap (to_z w16) (get_or-map (λ z. get_or (low ++ high) z 0) zigzag p 0 0 (omega arith))
    ∙ at_place c low high long_low first others (get_or zigzag p 0) (zigzag_below p below) in
    fill_by_all (λ p. product (entry c (get_or zigzag p 0)) (factor_at dc ac p)) out 64 (pos 0) long (λ p below. done p below ∙ ap (λ z. product z (factor_at dc ac p)) (number p below))

-- a 32nd of a number of 32 bits fits 64
pub shifted_fits : (z : ℤ) → negsuc 4294967295 ≤ℤ z → z ≤ℤ pos 4294967295 → SFits w64 (shr_z z 32)
shifted_fits (pos a) low high = record { sfits = omega (arith, ints) }
shifted_fits (negsuc a) low high = record { sfits = omega (arith, ints) }
