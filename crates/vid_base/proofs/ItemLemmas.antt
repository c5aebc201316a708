-- Loops that read equal fields: one item more, a fault, the end; and fields that were written are read. For any reader of an item.
use Rattle.std.proofs.Common.{◌≡◌, ℕ, suc, ◌+◌, ◌-◌, ◌<◌, Bool, List, [], ◌∷◌, ◌++◌, Result, Ok, Err, refl, ap, arith, append_assoc}
use Rattle.std.proofs.lemmas.List.{append-nil}
use Rattle.vid_base.specs.Reading.{◌>>=◌}
use Rattle.vid_base.specs.Items.{items, with_front}

regroup : {A F : Type 0} (front : List A) (x : A) (read : Result (List A × List Bool) F) → with_front (front ++ x ∷ []) read ≡ with_front front (read >>= (λ others. Ok (x ∷ others.0, others.1)))
regroup front x (Ok y) = ap (λ zs. Ok (zs, y.1)) (append_assoc front (x ∷ []) y.0)
regroup front x (Err e) = refl

-- one item more
pub items_step : {A F : Type 0} (item : List Bool → Result (A × List Bool) F) (front : List A) (n i : ℕ) (x : A) (left rest : List Bool) → i < n → item left ≡ Ok (x, rest)
    → with_front (front ++ x ∷ []) (items item (n - (i + 1)) rest) ≡ with_front front (items item (n - i) left)
unfolding items
items_step item front n i x left rest h e =
    let k : n - i ≡ suc (n - (i + 1)) = omega arith in
    rw (k, e) (regroup front x (items item (n - (i + 1)) rest))

-- a fault in place of an item
pub items_fault : {A F : Type 0} (item : List Bool → Result (A × List Bool) F) (front : List A) (n i : ℕ) (fault : F) (left : List Bool) → i < n → item left ≡ Err fault
    → with_front front (items item (n - i) left) ≡ Err fault
unfolding items
items_fault item front n i fault left h e = let k : n - i ≡ suc (n - (i + 1)) = omega arith in rw (k, e) refl

-- no item more
pub items_end : {A F : Type 0} (item : List Bool → Result (A × List Bool) F) (front : List A) (n i : ℕ) (left : List Bool) → n - i ≡ 0
    → with_front front (items item (n - i) left) ≡ Ok (front, left)
unfolding items
items_end item front n i left h = rw h (ap (λ xs. Ok (xs, left)) (append-nil front))
