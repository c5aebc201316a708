-- Predictors and the lists that are made by them. The walks through a plane and the laws cite these.
use Rattle.std.proofs.Common.{◌≡◌, ◌∙◌, ℕ, ◌+◌, ◌-◌, ◌%◌, ◌<◌, ◌≤◌, ◌&&◌, nat_lt, nat_le, Bool, true, false, List, length, get_or, set, take, Option, Some, None, ℤ, pos, refl, sym, ap, arith}
use Rattle.std.specs.Option.{unwrap_or}
use Rattle.std.proofs.lemmas.List.Sums.{fold_more}
use Rattle.std.proofs.lemmas.List.{get_or-take, length-set, length-take-le, take-set}
use Rattle.thr_dc.specs.Blocks.{Coded}
use Rattle.std.proofs.lemmas.Bool.Decides.{nat_tests}
use Rattle.thr_dc.specs.Predictor.{from_neighbours}
use Rattle.thr_dc.specs.Prediction.{around, counted, last_of, neighbour}

last_more : (kind : ℕ) (blocks : List (Option Coded)) (place : ℕ) → place < length blocks → last_of kind (take (place + 1) blocks) ≡ unwrap_or (counted kind (get_or blocks place None)) (last_of kind (take place blocks))
unfolding last_of
last_more kind blocks place h = fold_more (λ last block. unwrap_or (counted kind block) last) (pos 0) blocks place None h

-- where a block has changed, it may have the last value
pub last_changed : (kind place : ℕ) (now new : List (Option Coded)) (block : Option Coded) → new ≡ set now place block → place < length now
    → last_of kind (take (place + 1) new) ≡ unwrap_or (counted kind (get_or new place None)) (last_of kind (take place now))
last_changed kind place now new block e h =
    let long : length new ≡ length now = ap length e ∙ length-set now place block in
    let front : take place new ≡ take place now = ap (take place) e ∙ take-set now place block in
    last_more kind new place (omega arith) ∙ ap (λ l. unwrap_or (counted kind (get_or new place None)) (last_of kind l)) front

-- the last block has the kind
pub last_found : (kind : ℕ) (blocks : List (Option Coded)) (past : ℕ) (value : ℤ) → 0 < past → past ≤ length blocks → Some value ≡ counted kind (get_or blocks (past - 1) None) → last_of kind (take past blocks) ≡ value
last_found kind blocks past value some h e =
    let next : past - 1 + 1 ≡ past = omega arith in
    let more = last_more kind blocks (past - 1) (omega arith) in
    (rw next at more) ∙ rw (← e) refl

-- the last block does not count
pub last_passed : (kind : ℕ) (blocks : List (Option Coded)) (past : ℕ) → 0 < past → past ≤ length blocks → None ≡ counted kind (get_or blocks (past - 1) None) → last_of kind (take (past - 1) blocks) ≡ last_of kind (take past blocks)
last_passed kind blocks past some h e =
    let next : past - 1 + 1 ≡ past = omega arith in
    let more = last_more kind blocks (past - 1) (omega arith) in
    sym ((rw next at more) ∙ rw (← e) refl)

-- what stands before a block is the same in the plane and in its front
before_place : (kind : ℕ) (blocks : List (Option Coded)) (past place : ℕ) (there : Bool) → (there ≡ true → place < past) → neighbour kind (take past blocks) there place ≡ neighbour kind blocks there place
before_place kind blocks past place true h = ap (counted kind) (get_or-take past blocks place None (h refl))
before_place kind blocks past place false h = refl

-- what the neighbours in the plane predict
pub around_at : (w kind place : ℕ) (blocks : List (Option Coded)) → 0 < w → place ≤ length blocks
    → around w (take place blocks) kind ≡ from_neighbours
    (neighbour kind blocks (nat_lt 0 (place % w)) (place - 1))
    (neighbour kind blocks (nat_lt 0 (place % w) && nat_le w place) (place - w - 1))
    (neighbour kind blocks (nat_le w place) (place - w))
    (neighbour kind blocks (nat_le w place && nat_lt (place % w + 1) w) (place - w + 1))
unfolding around
around_at w kind place blocks some h =
    let long : length (take place blocks) ≡ place = length-take-le place blocks h in
    let left = before_place kind blocks place (place - 1) (nat_lt 0 (place % w)) (λ e. grind (arith, nat_tests)) in
    let lower_left = before_place kind blocks place (place - w - 1) (nat_lt 0 (place % w) && nat_le w place) (λ e. grind (arith, nat_tests)) in
    let below = before_place kind blocks place (place - w) (nat_le w place) (λ e. grind (arith, nat_tests)) in
    let lower_right = before_place kind blocks place (place - w + 1) (nat_le w place && nat_lt (place % w + 1) w) (λ e. grind (arith, nat_tests)) in
    rw (long, left, lower_left, below, lower_right) refl
