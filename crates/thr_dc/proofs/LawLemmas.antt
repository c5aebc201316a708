-- The laws of DC prediction: differences turn back into values, and limited values and their differences are small. The public
-- calls cite these.
use Rattle.std.proofs.Common.{◌≡◌, ◌∙◌, ℕ, ◌+◌, ◌-◌, ◌%◌, ◌≤◌, ◌&&◌, ◌==◌, nat_lt, nat_le, Bool, true, false, cond, List, [], ◌∷◌, ◌++◌, length, get_or, Option, Some, None, IfSome, All, fold, FitsSigned, ℤ, pos, ◌+ℤ◌, ◌-ℤ◌, unsigned_abs, refl, ap, inl, inr, arith}
use Rattle.std.specs.Int.{int_wrap, w16}
use Rattle.std.specs.Option.{unwrap_or}
use Rattle.std.proofs.lemmas.Bool.{cases_lt}
use Rattle.std.proofs.lemmas.Int.{ints, clamps, int_wrap-add_left, int_wrap_fits}
use Rattle.std.proofs.lemmas.List.{get_or_past}
use Rattle.std.proofs.lemmas.List.Elements.{All-nil, All-cons, All-head, All-tail, All-push, All-get_or}
use Rattle.thr_dc.specs.Blocks.{Coded, IsSmall}
use Rattle.thr_dc.specs.Predictor.{from_neighbours}
use Rattle.thr_dc.specs.Prediction.{applied, around, by_new, by_old, changed, counted, last_of, lowered, nearest, neighbour, predicted, raised, undone}
use Rattle.thr_dc.specs.Walks.{IsShort}
use Rattle.thr_dc.proofs.PredictorLemmas.{predictor_within}

-- a difference of 16 bits turns back into its value
value_back : (value predictor : ℤ) → FitsSigned w16 value → raised (lowered value predictor) predictor ≡ value
value_back value predictor fits =
    let same : value -ℤ predictor +ℤ predictor ≡ value = omega (arith, ints) in
    int_wrap-add_left w16 (value -ℤ predictor) predictor ∙ ap (int_wrap w16) same ∙ int_wrap_fits w16 value fits

block_back : (w : ℕ) (before : List (Option Coded)) (block : Option Coded) → IsShort block → changed raised w before (changed lowered w before block) ≡ block
unfolding changed
block_back w before None short = refl
block_back w before (Some dc) short = ap (λ v. Some (record { kind = dc.kind; value = v })) (value_back dc.value (predicted w before dc.kind) short)

back : (w : ℕ) (before blocks : List (Option Coded)) → All IsShort blocks → by_new raised w before (by_old lowered w before blocks) ≡ blocks
unfolding by_new by_old
back w before [] short = refl
back w before (block ∷ blocks) short =
    let head : changed raised w before (changed lowered w before block) ≡ block = block_back w before block (All-head IsShort block blocks short) in
    rw head (ap (λ l. block ∷ l) (back w (before ++ block ∷ []) blocks (All-tail IsShort block blocks short)))

-- differences turn back into values of 16 bits
pub undone_applied : (w : ℕ) (blocks : List (Option Coded)) → All IsShort blocks → undone w (applied w blocks) ≡ blocks
undone_applied w blocks short = back w [] blocks short

counted_within : (n kind : ℕ) (block : Option Coded) → IsSmall n block → IfSome (counted kind block) (λ v. unsigned_abs v ≤ n)
counted_within n kind None small = tt
counted_within n kind (Some dc) small = go (dc.kind == kind)
  where
    go : (same : Bool) → IfSome (cond same (Some dc.value) None) (λ v. unsigned_abs v ≤ n)
    go true = small
    go false = tt

pub entry_within : (n : ℕ) (blocks : List (Option Coded)) (place : ℕ) → All (IsSmall n) blocks → IsSmall n (get_or blocks place None)
entry_within n blocks place small = elim (cases_lt place (length blocks)) [
  | inl within ↦ All-get_or (IsSmall n) blocks place None within small
  | inr past ↦ rw (get_or_past blocks place None past) tt
]

neighbour_within : (n kind : ℕ) (blocks : List (Option Coded)) (there : Bool) (place : ℕ) → All (IsSmall n) blocks → IfSome (neighbour kind blocks there place) (λ v. unsigned_abs v ≤ n)
neighbour_within n kind blocks true place small = counted_within n kind (get_or blocks place None) (entry_within n blocks place small)
neighbour_within n kind blocks false place small = tt

or_within : (n : ℕ) (found : Option ℤ) (last : ℤ) → IfSome found (λ v. unsigned_abs v ≤ n) → unsigned_abs last ≤ n → unsigned_abs (unwrap_or found last) ≤ n
or_within n None last h k = k
or_within n (Some v) last h k = h

last_within : (n kind : ℕ) (blocks : List (Option Coded)) → All (IsSmall n) blocks → unsigned_abs (last_of kind blocks) ≤ n
unfolding last_of
last_within n kind blocks small = go (pos 0) blocks (omega (arith, ints)) small
  where
    go : (last : ℤ) (blocks : List (Option Coded)) → unsigned_abs last ≤ n → All (IsSmall n) blocks → unsigned_abs (fold (λ last block. unwrap_or (counted kind block) last) last blocks) ≤ n
    go last [] h small = h
    go last (block ∷ blocks) h small =
        go (unwrap_or (counted kind block) last) blocks (or_within n (counted kind block) last (counted_within n kind block (All-head (IsSmall n) block blocks small)) h) (All-tail (IsSmall n) block blocks small)

-- where the values are at most n, so is the predictor but for 128
pub predicted_within : (n w kind : ℕ) (before : List (Option Coded)) → All (IsSmall n) before → unsigned_abs (predicted w before kind) ≤ n + 128
unfolding predicted around
predicted_within n w kind before small =
    let place = length before in
    let left = nat_lt 0 (place % w) in
    let below = nat_le w place in
    let right = nat_lt (place % w + 1) w in
    let found = predictor_within (neighbour kind before left (place - 1)) (neighbour kind before (left && below) (place - w - 1)) (neighbour kind before below (place - w)) (neighbour kind before (below && right) (place - w + 1)) n
    (neighbour_within n kind before left (place - 1) small) (neighbour_within n kind before (left && below) (place - w - 1) small) (neighbour_within n kind before below (place - w) small) (neighbour_within n kind before (below && right) (place - w + 1) small) in
    or_within (n + 128) (from_neighbours (neighbour kind before left (place - 1)) (neighbour kind before (left && below) (place - w - 1)) (neighbour kind before below (place - w)) (neighbour kind before (below && right) (place - w + 1))) (last_of kind before)
    found (omega (arith, last_within n kind before small))

-- a value near a predictor of at most 708, and its difference
nearest_within : (value predictor : ℤ) → unsigned_abs value ≤ 580 → unsigned_abs predictor ≤ 708 → unsigned_abs (nearest value predictor) ≤ 580
nearest_within value predictor h k = omega (arith, ints, clamps)

difference_within : (value predictor : ℤ) → unsigned_abs (nearest value predictor -ℤ predictor) ≤ 580
difference_within value predictor = omega (arith, ints, clamps)

short_difference : (z : ℤ) → unsigned_abs z ≤ 580 → unsigned_abs (int_wrap w16 z) ≤ 580
short_difference z h =
    let fits : FitsSigned w16 z = omega (arith, ints) in
    rw (int_wrap_fits w16 z fits) h

limited_block : (w : ℕ) (before : List (Option Coded)) (block : Option Coded) → All (IsSmall 580) before → IsSmall 580 block → IsSmall 580 (changed nearest w before block)
unfolding changed
limited_block w before None small h = tt
limited_block w before (Some dc) small h = nearest_within dc.value (predicted w before dc.kind) h (predicted_within 580 w dc.kind before small)

applied_block : (w : ℕ) (before : List (Option Coded)) (block : Option Coded) → IsSmall 580 (changed lowered w before (changed nearest w before block))
unfolding changed
applied_block w before None = tt
applied_block w before (Some dc) = short_difference (nearest dc.value (predicted w before dc.kind) -ℤ predicted w before dc.kind) (difference_within dc.value (predicted w before dc.kind))

-- limited values are small, and so are their differences
pub limited_within : (w : ℕ) (before blocks : List (Option Coded)) → All (IsSmall 580) before → All (IsSmall 580) blocks → All (IsSmall 580) (by_new nearest w before blocks)
unfolding by_new
limited_within w before [] small h = h
limited_within w before (block ∷ blocks) small h =
    let new = changed nearest w before block in
    let new_small : IsSmall 580 new = limited_block w before block small (All-head (IsSmall 580) block blocks h) in
    All-cons (IsSmall 580) new (by_new nearest w (before ++ new ∷ []) blocks) new_small
    (limited_within w (before ++ new ∷ []) blocks (All-push (IsSmall 580) before new small new_small) (All-tail (IsSmall 580) block blocks h))

pub differences_within : (w : ℕ) (before blocks : List (Option Coded)) → All (IsSmall 580) (by_old lowered w before (by_new nearest w before blocks))
unfolding by_new by_old
differences_within w before [] = All-nil (IsSmall 580)
differences_within w before (block ∷ blocks) =
    let new = changed nearest w before block in
    All-cons (IsSmall 580) (changed lowered w before new) (by_old lowered w (before ++ new ∷ []) (by_new nearest w (before ++ new ∷ []) blocks)) (applied_block w before block) (differences_within w (before ++ new ∷ []) blocks)
