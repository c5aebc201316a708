-- Values put in places of a list: step by step, part by part, and what then stands where. The placing of vectors cites these.
use Rattle.std.proofs.Common.{◌≡◌, ◌≢◌, ◌∙◌, ℕ, zero, suc, ◌+◌, ◌<◌, ◌≤◌, List, [], ◌∷◌, ◌++◌, length, length-set, drop, get_or, Some, slice_get, slice_set, refl, ap, sym, arith}
use Rattle.std.proofs.lemmas.List.{drop_all, get_or-set_same, get_or-set_other}
use Rattle.std.proofs.lemmas.Option.{same_Some}
use Rattle.std.proofs.Math.Seq.{drop-cons}
use Rattle.thr_modes.specs.Placing.{put_at}

-- one value more
pub put_more : {X : Type 0} (xs : List X) (places : List ℕ) (values : List X) (k place : ℕ) (v : X) → k < length places → k < length values → get_or places k 0 ≡ place → get_or values k v ≡ v
    → put_at (slice_set xs place v) (drop (k + 1) places) (drop (k + 1) values) ≡ put_at xs (drop k places) (drop k values)
unfolding put_at
put_more xs places values k place v h within at is =
    let next : k + 1 ≡ suc k = omega arith in
    rw (next, drop-cons places k 0 h, drop-cons values k v within, at, is) refl

-- none more
pub put_done : {X : Type 0} (xs : List X) (places : List ℕ) (values : List X) (k : ℕ) → length places ≤ k → put_at xs (drop k places) values ≡ xs
unfolding put_at
put_done xs places values k h = rw (drop_all k places h) refl

-- values in two parts
pub put-append : {X : Type 0} (xs : List X) (places others : List ℕ) (values rest : List X) → length places ≡ length values → put_at xs (places ++ others) (values ++ rest) ≡ put_at (put_at xs places values) others rest
unfolding put_at
put-append xs [] others [] rest e = refl
put-append xs [] others (value ∷ values) rest e = absurd (omega arith)
put-append xs (place ∷ places) others [] rest e = absurd (omega arith)
put-append xs (place ∷ places) others (value ∷ values) rest e = put-append (slice_set xs place value) places others values rest (omega arith)

-- the list stays as long as it is
pub length-put_at : {X : Type 0} (xs : List X) (places : List ℕ) (values : List X) → length (put_at xs places values) ≡ length xs
unfolding put_at
length-put_at xs [] values = refl
length-put_at xs (place ∷ places) [] = refl
length-put_at xs (place ∷ places) (value ∷ values) = length-put_at (slice_set xs place value) places values ∙ length-set xs place value

-- a place that is not named keeps its value
pub put_elsewhere : {X : Type 0} (xs : List X) (places : List ℕ) (values : List X) (at : ℕ) (d : X) → ((j : ℕ) → slice_get places j ≡ Some at → ⊥) → get_or (put_at xs places values) at d ≡ get_or xs at d
unfolding put_at
put_elsewhere xs [] values at d none = refl
put_elsewhere xs (place ∷ places) [] at d none = refl
put_elsewhere xs (place ∷ places) (value ∷ values) at d none =
    let other : at ≢ place = λ e. none zero (ap Some (sym e)) in
    put_elsewhere (slice_set xs place value) places values at d (λ j. none (suc j)) ∙ get_or-set_other xs place at value d other

-- where each place is named once, each value stands in its place
pub put_there : {X : Type 0} (xs : List X) (places : List ℕ) (values : List X) (j at : ℕ) (d : X) → ((i k p : ℕ) → slice_get places i ≡ Some p → slice_get places k ≡ Some p → i ≡ k)
    → at < length xs → length places ≡ length values → slice_get places j ≡ Some at → get_or (put_at xs places values) at d ≡ get_or values j d
unfolding put_at
put_there xs [] values j at d once within long e = cc
put_there xs (place ∷ places) [] j at d once within long e = absurd (omega arith)
put_there xs (place ∷ places) (value ∷ values) zero at d once within long e =
    let is : place ≡ at = same_Some place at e in
    let alone : (j : ℕ) → slice_get places j ≡ Some at → ⊥ = λ j there. (let no : zero ≡ suc j = once zero (suc j) at e there in omega arith) in
    put_elsewhere (slice_set xs place value) places values at d alone ∙ ap (λ p. get_or (slice_set xs p value) at d) is ∙ get_or-set_same xs at value d within
put_there xs (place ∷ places) (value ∷ values) (suc j) at d once within long e =
    put_there (slice_set xs place value) places values j at d (λ i k p a b. (let same : suc i ≡ suc k = once (suc i) (suc k) p a b in omega arith)) (omega (arith, length-set xs place value)) (omega arith) e
