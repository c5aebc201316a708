-- All six pairs: as they are written one behind the other, and read. `write_pairs` cites these.
use Rattle.std.proofs.Common.{◌≡◌, ℕ, Bool, List, [], ◌∷◌, ◌++◌, length, get_or, Some, None, Ok, refl, ap, ◌∙◌, arith, append_assoc}
use Rattle.std.proofs.lemmas.List.{nil_from_length}
use Rattle.thr_quant.specs.Ranges.{Ranges, ranges_of, ranges_bits}
use Rattle.thr_quant.specs.Ramps.{Ramps, scales_of, scales_bits, matrices_of, matrices_bits, pair_of, pair_bits, pairs_of, pairs_bits, ramps_of, ramps_bits}

-- a list of three is its elements
pub three-is : (xs : List Ranges) (a b c : Ranges) → length xs ≡ 3 → xs ≡ get_or xs 0 a ∷ get_or xs 1 b ∷ get_or xs 2 c ∷ []
three-is [] a b c long = absurd (omega arith)
three-is (x ∷ []) a b c long = absurd (omega arith)
three-is (x ∷ y ∷ []) a b c long = absurd (omega arith)
three-is (x ∷ y ∷ z ∷ xs) a b c long = let none : xs ≡ [] = nil_from_length xs (omega arith) in rw none refl

five-written : (w₀ w₁ w₂ w₃ w₄ w₅ a b c d e : List Bool) → w₁ ≡ w₀ ++ a → w₂ ≡ w₁ ++ b → w₃ ≡ w₂ ++ c → w₄ ≡ w₃ ++ d → w₅ ≡ w₄ ++ e → w₅ ≡ w₀ ++ (a ++ b ++ c ++ d ++ e)
five-written w₀ w₁ w₂ w₃ w₄ w₅ a b c d e e₁ e₂ e₃ e₄ e₅ = rw (e₅, e₄, e₃, e₂, e₁) (simp append_assoc)

-- what stands there where memory is wanting for the last pair
pub pairs-memory : (w₀ w₁ w₂ w₃ w₄ w₅ w₆ a b c d e : List Bool) → w₁ ≡ w₀ ++ a → w₂ ≡ w₁ ++ b → w₃ ≡ w₂ ++ c → w₄ ≡ w₃ ++ d → w₅ ≡ w₄ ++ e
    → ((more : List Bool) × (w₆ ≡ w₅ ++ more)) → (more : List Bool) × (w₆ ≡ w₀ ++ more)
pairs-memory w₀ w₁ w₂ w₃ w₄ w₅ w₆ a b c d e e₁ e₂ e₃ e₄ e₅ f =
    let five : w₅ ≡ w₀ ++ (a ++ b ++ c ++ d ++ e) = five-written w₀ w₁ w₂ w₃ w₄ w₅ a b c d e e₁ e₂ e₃ e₄ e₅ in
    ((a ++ b ++ c ++ d ++ e) ++ f.0, f.1 ∙ ap (λ bits. bits ++ f.0) five ∙ append_assoc w₀ (a ++ b ++ c ++ d ++ e) f.0)

-- all six pairs are written
pub pairs-written : (n : ℕ) (intra inter : List Ranges) (y cb cr inter_y inter_cb inter_cr : Ranges) (w₀ w₁ w₂ w₃ w₄ w₅ w₆ : List Bool)
    → intra ≡ y ∷ cb ∷ cr ∷ [] → inter ≡ inter_y ∷ inter_cb ∷ inter_cr ∷ []
    → w₁ ≡ w₀ ++ ranges_bits n y → w₂ ≡ w₁ ++ pair_bits n y None cb → w₃ ≡ w₂ ++ pair_bits n cb None cr → w₄ ≡ w₃ ++ pair_bits n cr (Some y) inter_y
    → w₅ ≡ w₄ ++ pair_bits n inter_y (Some cb) inter_cb → w₆ ≡ w₅ ++ pair_bits n inter_cb (Some cr) inter_cr → w₆ ≡ w₀ ++ pairs_bits n intra inter
unfolding pairs_bits
pairs-written n intra inter y cb cr inter_y inter_cb inter_cr w₀ w₁ w₂ w₃ w₄ w₅ w₆ e f e₁ e₂ e₃ e₄ e₅ e₆ =
    let five : w₅ ≡ w₀ ++ (ranges_bits n y ++ pair_bits n y None cb ++ pair_bits n cb None cr ++ pair_bits n cr (Some y) inter_y ++ pair_bits n inter_y (Some cb) inter_cb) =
    five-written w₀ w₁ w₂ w₃ w₄ w₅ _ _ _ _ _ e₁ e₂ e₃ e₄ e₅ in
    rw (e₆, five, e, f) (append_assoc w₀ _ _)

-- what was written for six pairs is read, where each reads back
pub pairs_of-pairs_bits : (n : ℕ) (intra inter : List Ranges) (y cb cr inter_y inter_cb inter_cr : Ranges) (rest : List Bool)
    → intra ≡ y ∷ cb ∷ cr ∷ [] → inter ≡ inter_y ∷ inter_cb ∷ inter_cr ∷ []
    → ((after : List Bool) → ranges_of n (ranges_bits n y ++ after) ≡ Ok (y, after))
    → ((after : List Bool) → pair_of n y None (pair_bits n y None cb ++ after) ≡ Ok (cb, after))
    → ((after : List Bool) → pair_of n cb None (pair_bits n cb None cr ++ after) ≡ Ok (cr, after))
    → ((after : List Bool) → pair_of n cr (Some y) (pair_bits n cr (Some y) inter_y ++ after) ≡ Ok (inter_y, after))
    → ((after : List Bool) → pair_of n inter_y (Some cb) (pair_bits n inter_y (Some cb) inter_cb ++ after) ≡ Ok (inter_cb, after))
    → ((after : List Bool) → pair_of n inter_cb (Some cr) (pair_bits n inter_cb (Some cr) inter_cr ++ after) ≡ Ok (inter_cr, after))
    → pairs_of n (pairs_bits n intra inter ++ rest) ≡ Ok ((intra, inter), rest)
unfolding pairs_of pairs_bits
pairs_of-pairs_bits n intra inter y cb cr inter_y inter_cb inter_cr rest e f r₁ r₂ r₃ r₄ r₅ r₆ =
    rw (e, f) (simp append_assoc (rw (r₁ _, r₂ _, r₃ _, r₄ _, r₅ _, r₆ _) refl))

-- quantisers, where each part reads back
pub ramps_of-ramps_bits : (ramps : Ramps) (n : ℕ) (list : List (List ℕ)) (rest : List Bool) → n ≡ length ramps.matrices → list ≡ ramps.matrices
    → ((after : List Bool) → scales_of (scales_bits ramps.ac ++ after) ≡ Ok (ramps.ac, after))
    → ((after : List Bool) → scales_of (scales_bits ramps.dc ++ after) ≡ Ok (ramps.dc, after))
    → ((after : List Bool) → matrices_of (matrices_bits list ++ after) ≡ Ok (list, after))
    → ((after : List Bool) → pairs_of n (pairs_bits n ramps.intra ramps.inter ++ after) ≡ Ok ((ramps.intra, ramps.inter), after))
    → ramps_of (ramps_bits ramps ++ rest) ≡ Ok (ramps, rest)
unfolding ramps_of ramps_bits
ramps_of-ramps_bits ramps n list rest count same ac dc matrices six =
    let read = rw same at matrices in
    let both = rw count at six in
    simp append_assoc (rw (ac _, dc _, read _, both _) refl)
