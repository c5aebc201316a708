-- Loops that read an item for each element of a list, or equal items, into a slice: one more, a fault, the end. Every reader cites these.
use Rattle.std.proofs.Common.{◌≡◌, ◌∙◌, ℕ, suc, ◌+◌, ◌-◌, ◌<◌, ◌≤◌, Bool, List, [], ◌∷◌, ◌++◌, length, take, drop, Result, Ok, Err, Some, slice_get, slice_set, refl, ap, arith, append_assoc}
use Rattle.std.proofs.lemmas.List.{append-nil, take_more_set, take_all, drop_all}
use Rattle.std.proofs.lemmas.Option.{slice_get_within, get_or_from_slice_get}
use Rattle.std.proofs.Math.Seq.{drop-cons}
use Rattle.vid_base.specs.Reading.{◌>>=◌}
use Rattle.vid_base.specs.Items.{items, with_front}
use Rattle.vid_base.proofs.ItemLemmas.{items_step, items_fault, items_end}
use Rattle.thr_modes.specs.InOrder.{each}

-- what stands at a place and behind it
pub drop_at : {X : Type 0} (xs : List X) (m : ℕ) (x : X) → slice_get xs m ≡ Some x → drop m xs ≡ x ∷ drop (m + 1) xs
drop_at xs m x h =
    let within : m < length xs = slice_get_within xs m x h in
    let next : suc m ≡ m + 1 = omega arith in
    drop-cons xs m x within ∙ ap (λ y. y ∷ drop (suc m) xs) (get_or_from_slice_get xs m x x h) ∙ ap (λ k. x ∷ drop k xs) next

regroup : {A F : Type 0} (front : List A) (x : A) (read : Result (List A × List Bool) F) → with_front (front ++ x ∷ []) read ≡ with_front front (read >>= (λ others. Ok (x ∷ others.0, others.1)))
regroup front x (Ok y) = ap (λ zs. Ok (zs, y.1)) (append_assoc front (x ∷ []) y.0)
regroup front x (Err e) = refl

-- an item for one more element
pub each_more : {X A F : Type 0} (item : X → List Bool → Result (A × List Bool) F) (xs : List X) (done : List A) (m : ℕ) (x : X) (a : A) (left rest : List Bool) → slice_get xs m ≡ Some x → m < length done → item x left ≡ Ok (a, rest)
    → with_front (take (m + 1) (slice_set done m a)) (each item (drop (m + 1) xs) rest) ≡ with_front (take m done) (each item (drop m xs) left)
unfolding each
each_more item xs done m x a left rest h within e =
    rw (take_more_set done m a within, drop_at xs m x h, e) (regroup (take m done) a (each item (drop (m + 1) xs) rest))

-- a fault in place of an item
pub each_fault : {X A F : Type 0} (item : X → List Bool → Result (A × List Bool) F) (xs : List X) (front : List A) (m : ℕ) (x : X) (fault : F) (left : List Bool) → slice_get xs m ≡ Some x → item x left ≡ Err fault
    → with_front front (each item (drop m xs) left) ≡ Err fault
unfolding each
each_fault item xs front m x fault left h e = rw (drop_at xs m x h, e) refl

-- no element more
pub each_done : {X A F : Type 0} (item : X → List Bool → Result (A × List Bool) F) (xs : List X) (done : List A) (m : ℕ) (left : List Bool) → length xs ≤ m → length done ≤ m
    → with_front (take m done) (each item (drop m xs) left) ≡ Ok (done, left)
unfolding each
each_done item xs done m left h all = rw (drop_all m xs h, take_all m done all) (ap (λ zs. Ok (zs, left)) (append-nil done))

-- one item more of so many
pub item_more : {A F : Type 0} (item : List Bool → Result (A × List Bool) F) (done : List A) (n m : ℕ) (a : A) (left rest : List Bool) → m < n → m < length done → item left ≡ Ok (a, rest)
    → with_front (take (m + 1) (slice_set done m a)) (items item (n - (m + 1)) rest) ≡ with_front (take m done) (items item (n - m) left)
item_more item done n m a left rest h within e = rw (take_more_set done m a within) (items_step item (take m done) n m a left rest h e)

-- a fault in place of one
pub item_fault : {A F : Type 0} (item : List Bool → Result (A × List Bool) F) (front : List A) (n m : ℕ) (fault : F) (left : List Bool) → m < n → item left ≡ Err fault
    → with_front front (items item (n - m) left) ≡ Err fault
item_fault item front n m fault left h e = items_fault item front n m fault left h e

-- all of them
pub items_done : {A F : Type 0} (item : List Bool → Result (A × List Bool) F) (done : List A) (n m : ℕ) (left : List Bool) → n - m ≡ 0 → length done ≤ m
    → with_front (take m done) (items item (n - m) left) ≡ Ok (done, left)
items_done item done n m left h all = rw (take_all m done all) (items_end item done n m left h)
