-- Loops that fill a list with equal fields: one field more, too few bits, the end. The readers of numbers cite these.
use Rattle.std.proofs.Common.{◌≡◌, ℕ, ◌+◌, ◌-◌, ◌<◌, ◌≤◌, Bool, List, ◌≢◌, length, take, get_or, All, Some, None, Ok, Err, Result, ap, sym, ◌∙◌, arith}
use Rattle.std.proofs.Common.{get_or-set_other, get_or-set_same, below_more}
use Rattle.std.proofs.Math.ListN.{set}
use Rattle.std.proofs.lemmas.Grind.{get_or_default_zero}
use Rattle.std.proofs.lemmas.List.{take_more_set, take_all}
use Rattle.vid_base.specs.Bits.{take_bits}
use Rattle.vid_base.specs.Items.{items, with_front}
use Rattle.vid_base.specs.Reading.{field, or_ended}
use Rattle.vid_base.specs.declared.fault.PacketFault.{PacketFault}
use Rattle.vid_base.specs.declared.fault.PacketFault.TheVariants.{Ended as EndedFault}
use Rattle.vid_base.proofs.ItemLemmas.{items_step, items_fault, items_end}

-- one field more stands in its place of the list
pub fields_step : (width n i v : ℕ) (xs : List ℕ) (left rest : List Bool) (all : Result (List ℕ × List Bool) PacketFault)
    → i < n → length xs ≡ n → take_bits width left ≡ Some (v, rest) → with_front (take i xs) (items (field width) (n - i) left) ≡ all
    → with_front (take (i + 1) (set xs i v)) (items (field width) (n - (i + 1)) rest) ≡ all
fields_step width n i v xs left rest all h long taken before =
    let there : i < length xs = omega arith in
    rw (take_more_set xs i v there) (items_step (field width) (take i xs) n i v left rest h (ap or_ended taken) ∙ before)

-- too few bits for a field
pub fields_ended : (width n i : ℕ) (front : List ℕ) (left : List Bool) (all : Result (List ℕ × List Bool) PacketFault)
    → i < n → take_bits width left ≡ None → with_front front (items (field width) (n - i) left) ≡ all → all ≡ Err EndedFault
fields_ended width n i front left all h none before = sym before ∙ items_fault (field width) front n i EndedFault left h (ap or_ended none)

-- the list is full
pub fields_end : (width n i : ℕ) (xs : List ℕ) (left : List Bool) (all : Result (List ℕ × List Bool) PacketFault)
    → n ≤ i → length xs ≡ n → with_front (take i xs) (items (field width) (n - i) left) ≡ all → all ≡ Ok (xs, left)
fields_end width n i xs left all h long before =
    let none : n - i ≡ 0 = omega arith in
    let full : length xs ≤ i = omega arith in
    sym before ∙ ap (λ front. with_front front (items (field width) (n - i) left)) (take_all i xs full) ∙ items_end (field width) xs n i left none

-- one number more is small
pub small_step : (most i v : ℕ) (xs : List ℕ) → i < length xs → v < most → ((k : ℕ) → k < i → get_or xs k 0 < most)
    → (k : ℕ) → k < i + 1 → get_or (set xs i v) k 0 < most
small_step most i v xs there small before =
    below_more _ _ (λ k h. let other : k ≢ i = omega arith in rw get_or-set_other (before k h)) (rw get_or-set_same small)

-- all numbers are small
pub small_end : (most i : ℕ) (xs : List ℕ) → length xs ≤ i → ((k : ℕ) → k < i → get_or xs k 0 < most) → All (λ v. v < most) xs
small_end most i xs full before = λ k d h. rw (get_or_default_zero xs k d h) (before k (omega arith))
