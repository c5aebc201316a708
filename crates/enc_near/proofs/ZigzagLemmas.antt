-- The natural and the zigzag order, each by the other. `coefficients.rt` and the frame cite these.
use Rattle.std.proofs.Common.{◌≡◌, ◌∙◌, ℕ, ◌<◌, ◌==◌, nat_lt, length, get_or, inl, inr, refl, sym, ap, arith}
use Rattle.std.specs.List.{range_with_len}
use Rattle.std.proofs.lemmas.Bool.{cases_eq, eqb-true, ltb-true}
use Rattle.std.proofs.lemmas.List.FromFn.{get_or-range_with_len}
use Rattle.std.proofs.lemmas.List.Sums.{AllPass-from_list_all}
use Rattle.thr_recon.specs.Residual.{zigzag}
use Rattle.enc_near.specs.Made.{natural}

pub natural_below : (z : ℕ) → z < 64 → get_or natural z 0 < 64
unfolding natural
natural_below z below =
    let long : length natural ≡ 64 = refl in
    ltb-true (get_or natural z 0) 64 (AllPass-from_list_all (λ n. nat_lt n 64) natural refl z 0 (omega arith))

pub zigzag_below : (k : ℕ) → k < 64 → get_or zigzag k 0 < 64
zigzag_below k below =
    let long : length zigzag ≡ 64 = refl in
    ltb-true (get_or zigzag k 0) 64 (AllPass-from_list_all (λ n. nat_lt n 64) zigzag refl k 0 (omega arith))

-- a place of the natural order, back from its place in zigzag order
pub natural_of_zigzag : (k : ℕ) → k < 64 → get_or natural (get_or zigzag k 0) 0 ≡ k
unfolding natural
natural_of_zigzag k below =
    let long : length (range_with_len 0 64) ≡ 64 = refl in
    let same : get_or (range_with_len 0 64) k 0 ≡ k = get_or-range_with_len 0 64 k 0 below ∙ omega arith in
    let here = AllPass-from_list_all (λ n. get_or natural (get_or zigzag n 0) 0 == n) (range_with_len 0 64) refl k 0 (omega arith) in
    eqb-true (get_or natural (get_or zigzag k 0) 0) k (rw same at here)

first_natural : get_or natural 0 0 ≡ 0
unfolding natural
first_natural = refl

-- only the first stands at the first place
pub zigzag_behind : (k : ℕ) → 0 < k → k < 64 → 0 < get_or zigzag k 0
zigzag_behind k some below = elim (cases_eq (get_or zigzag k 0) 0) as (λ _. 0 < get_or zigzag k 0) [
  | inl none ↦ absurd (no none)
  | inr other ↦ omega arith
]
  where
    no : get_or zigzag k 0 ≡ 0 → ⊥
    no none = let e : k ≡ 0 = sym (natural_of_zigzag k below) ∙ ap (λ n. get_or natural n 0) none ∙ first_natural in omega arith
