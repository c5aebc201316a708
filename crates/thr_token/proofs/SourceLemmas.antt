-- Where each step of one source is a step of another, blocks read the same from both. The law of reading back cites these.
use Rattle.std.proofs.Common.{◌≡◌, ℕ, zero, suc, ◌+◌, ◌≤◌, Bool, true, false, cond, nat_eq, List, [], ◌∷◌, ◌++◌, Result, Ok, Err, refl, ap, subst, arith}
use Rattle.vid_base.specs.declared.fault.PacketFault.{PacketFault}
use Rattle.vid_base.specs.Reading.{◌>>=◌}
use Rattle.thr_token.specs.Tokens.{Meaning}
use Rattle.thr_token.specs.Coefficients.{Progress, Source, at_place, places, taken, turn, unended, visit}

-- what an `Ok` holds
abbrev pub of_ok : {A F : Type 0} → A → Result A F → A
of_ok other (Ok a) = a
of_ok other (Err fault) = other

pub ok_same : {A F : Type 0} (a b : A) → ◌≡◌ {A = Result A F} (Ok a) (Ok b) → a ≡ b
ok_same a b e = ap (of_ok a) e

-- a chain that ends well went well so far
pub went_well : {A B F : Type 0} (r : Result A F) (next : A → Result B F) (b : B) → (r >>= next) ≡ Ok b → (a : A) × (r ≡ Ok a) × (next a ≡ Ok b)
went_well (Ok a) next b e = (a, refl, e)
went_well (Err fault) next b e = cc

-- at this place each step of the first source, where R holds, is a step of the second, and R holds then
abbrev pub Follows : {S T : Type 0} → Source S → Source T → (S → T → Type 0) → ℕ → Type 0
Follows {S} {T} first second R place =
    (luma : Bool) (s left : S) (t : T) (m : Meaning) → R s t → first place luma s ≡ Ok (m, left) → (rest : T) × (second place luma t ≡ Ok (m, rest)) × R left rest

-- what was read, with what the second source has left
abbrev pub Reads : {S T X : Type 0} → (S → T → Type 0) → Result (X × T) PacketFault → X → S → Type 0
Reads {S} {T} {X} R read x left = (rest : T) × (read ≡ Ok (x, rest)) × R left rest

turn_follows : {S T : Type 0} (first : Source S) (second : Source T) (R : S → T → Type 0) (place others : ℕ) (b : Progress) (run : ℕ) (s left : S) (t : T) (x : Progress × ℕ)
    → Follows first second R place → R s t → turn first place others b run s ≡ Ok (x, left) → Reads R (turn second place others b run t) x left
unfolding turn
turn_follows first second R place others b (suc run) s left t x f r e =
    let both = ok_same _ _ e in
    (t, ap (λ y. Ok (y, t)) (ap (λ z. z.0) both), subst (λ z. R z t) (ap (λ z. z.1) both) r)
turn_follows first second R place others b zero s left t x f r e =
    let one = went_well (first place b.luma s) (λ token. taken place others b token.0 >>= (λ after. Ok (after, token.1))) (x, left) e in
    let two = went_well (taken place others b one.0.0) (λ after. Ok (after, one.0.1)) (x, left) one.2 in
    let step = f b.luma s one.0.1 t one.0.0 r one.1 in
    let both = ok_same _ _ two.2 in
    (step.0, rw (step.1, two.1) (ap (λ y. Ok (y, step.0)) (ap (λ z. z.0) both)), subst (λ z. R z step.0) (ap (λ z. z.1) both) step.2)

visit_follows : {S T : Type 0} (first : Source S) (second : Source T) (R : S → T → Type 0) (place others : ℕ) (b : Progress) (run : ℕ) (s left : S) (t : T) (x : Progress × ℕ)
    → Follows first second R place → R s t → visit first place others b run s ≡ Ok (x, left) → Reads R (visit second place others b run t) x left
unfolding visit
visit_follows {S} {T} first second R place others b run s left t x f r e = go (nat_eq b.place place) e
  where
    go : (here : Bool) → cond here (turn first place others b run s) (Ok ((b, run), s)) ≡ Ok (x, left) → Reads R (cond here (turn second place others b run t) (Ok ((b, run), t))) x left
    go true h = turn_follows first second R place others b run s left t x f r h
    go false h =
        let both = ok_same _ _ h in
        (t, ap (λ y. Ok (y, t)) (ap (λ z. z.0) both), subst (λ z. R z t) (ap (λ z. z.1) both) r)

-- the blocks at one place
pub at_place_follows : {S T : Type 0} (first : Source S) (second : Source T) (R : S → T → Type 0) (place : ℕ) (visited blocks : List Progress) (run : ℕ) (s left : S) (t : T) (x : List Progress × ℕ)
    → Follows first second R place → R s t → at_place first place visited blocks run s ≡ Ok (x, left) → Reads R (at_place second place visited blocks run t) x left
unfolding at_place
at_place_follows first second R place visited [] run s left t x f r e =
    let both = ok_same _ _ e in
    (t, ap (λ y. Ok (y, t)) (ap (λ z. z.0) both), subst (λ z. R z t) (ap (λ z. z.1) both) r)
at_place_follows first second R place visited (b ∷ blocks) run s left t x f r e =
    let others = unended visited + unended blocks in
    let one = went_well (visit first place others b run s) (λ after. at_place first place (visited ++ after.0.0 ∷ []) blocks after.0.1 after.1) (x, left) e in
    let step = visit_follows first second R place others b run s one.0.1 t one.0.0 f r one.1 in
    let others_read = at_place_follows first second R place (visited ++ one.0.0.0 ∷ []) blocks one.0.0.1 one.0.1 left step.0 x f step.2 one.2 in
    (others_read.0, rw step.1 others_read.1, others_read.2)

-- the blocks at places from one on
pub places_follow : {S T : Type 0} (first : Source S) (second : Source T) (R : S → T → Type 0) (from n place : ℕ) (blocks : List Progress) (run : ℕ) (s left : S) (t : T) (x : List Progress × ℕ)
    → ((p : ℕ) → from ≤ p → Follows first second R p) → from ≤ place → R s t → places first n place blocks run s ≡ Ok (x, left) → Reads R (places second n place blocks run t) x left
unfolding places
places_follow first second R from zero place blocks run s left t x f low r e =
    let both = ok_same _ _ e in
    (t, ap (λ y. Ok (y, t)) (ap (λ z. z.0) both), subst (λ z. R z t) (ap (λ z. z.1) both) r)
places_follow first second R from (suc n) place blocks run s left t x f low r e =
    let one = went_well (at_place first place [] blocks run s) (λ after. places first n (place + 1) after.0.0 after.0.1 after.1) (x, left) e in
    let step = at_place_follows first second R place [] blocks run s one.0.1 t one.0.0 (f place low) r one.1 in
    let others_read = places_follow first second R from n (place + 1) one.0.0.0 one.0.0.1 one.0.1 left step.0 x f (omega arith) step.2 one.2 in
    (others_read.0, rw step.1 others_read.1, others_read.2)
