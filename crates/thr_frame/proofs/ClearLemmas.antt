-- Lists with one value in all places. The functions that clear coefficients cite these.
use Rattle.std.proofs.Common.{◌≡◌, ◌∙◌, ℕ, zero, suc, ◌<◌, List, [], ◌∷◌, length, get_or, replicate, refl, ap, arith}

-- such a list is the value so many times
pub all_same : {X : Type 0} (v d : X) (xs : List X) → ((k : ℕ) → k < length xs → get_or xs k d ≡ v) → xs ≡ replicate (length xs) v
all_same v d [] h = refl
all_same v d (x ∷ xs) h = ap (λ y. y ∷ xs) (h zero (omega arith)) ∙ ap (λ ys. v ∷ ys) (all_same v d xs (λ k below. h (suc k) (omega arith)))
