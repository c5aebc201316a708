-- Slices in range, one by one. The loops over slices and the planner cite these.
use Rattle.std.proofs.Common.{◌≡◌, ℕ, suc, ◌+◌, ◌-◌, ◌<◌, ◌≤◌, Bool, true, false, List, [], ◌∷◌, length, map, drop, take, get_or, Some, None, refl, ap, sym, ◌∙◌, arith, add-one, drop-cons, leb-true}
use Rattle.std.proofs.lemmas.Bool.{and_parts}
use Rattle.std.proofs.lemmas.List.{length-map, take_rest}
use Rattle.std.proofs.Math.ListN.{drop_of_length-le, get_or-map}
use Rattle.cut_list.specs.Slices.{Slice, Slices, slice_view, slices_view}
use Rattle.cut_list.specs.declared.list.Slice.{Slice as SliceStruct}
use Rattle.cut_plan.specs.Forced.{Marks}
use Rattle.cut_plan.specs.Range.{first_outside, is_inside}
use Rattle.cut_plan.specs.Spans.{span_of}
use Rattle.cut_plan.specs.Views.{AreInside, IsSpan}

-- the slices that are left are the next and those behind it
pub view-item : (items : List SliceStruct) (i : ℕ) (item : SliceStruct) → i < length items → item ≡ get_or items i item
    → slices_view (drop i items) ≡ slice_view item ∷ slices_view (drop (i + 1) items)
view-item items i item inside is =
    ap slices_view (drop-cons items i item inside ∙ ap (λ x. x ∷ drop (suc i) items) (sym is)) ∙ ap (λ k. slice_view item ∷ slices_view (drop k items)) (sym (add-one i))

pub view-none : (items : List SliceStruct) (i : ℕ) → length items ≤ i → slices_view (drop i items) ≡ []
view-none items i all = ap slices_view (drop_of_length-le items all)

pub first_outside-inside : (counts : List ℕ) (n : ℕ) (slice : Slice) (slices : Slices) → is_inside counts n slice ≡ true
    → first_outside counts n (slice ∷ slices) ≡ first_outside counts (n + (slice.past - slice.first)) slices
unfolding first_outside
first_outside-inside counts n slice slices inside = rw inside refl

pub first_outside-outside : (counts : List ℕ) (n : ℕ) (slice : Slice) (slices : Slices) → is_inside counts n slice ≡ false
    → first_outside counts n (slice ∷ slices) ≡ Some slice.line
unfolding first_outside
first_outside-outside counts n slice slices outside = rw outside refl

pub first_outside-none : (counts : List ℕ) (n : ℕ) → first_outside counts n [] ≡ None
unfolding first_outside
first_outside-none counts n = refl

-- no more frames than a list may have
pub inside-few : (counts : List ℕ) (n : ℕ) (slice : Slice) → is_inside counts n slice ≡ true → n + (slice.past - slice.first) ≤ 16777216
inside-few counts n slice inside = leb-true _ _ (and_parts _ _ inside).1

-- a slice in range lies in a source
inside-span : (marks : List Marks) (n : ℕ) (slice : SliceStruct) → is_inside (map (λ m. length m) marks) n (slice_view slice) ≡ true → IsSpan marks (span_of (slice_view slice))
inside-span marks n slice inside =
    let known = and_parts _ _ (and_parts _ _ inside).0 in
    let source = and_parts _ _ known.0 in
    let counted = length-map marks (λ m. length m) in
    let size : get_or (map (λ m. length m) marks) (slice.src - 1) 0 ≡ length (get_or marks (slice.src - 1) []) = get_or-map (λ m. length m) marks (slice.src - 1) [] in
    record {
      ordered = slice.ordered;
      source = leb-true _ _ source.0;
      known = rw counted at (leb-true _ _ source.1);
      ends = omega (arith, leb-true _ _ known.1, size);
    }

pub all_inside : (marks : List Marks) (n : ℕ) (items : List SliceStruct) → first_outside (map (λ m. length m) marks) n (slices_view items) ≡ None → AreInside marks (slices_view items)
all_inside marks n [] none = tt
all_inside marks n (item ∷ items) none = inside (is_inside (map (λ m. length m) marks) n (slice_view item)) refl (all_inside marks (n + (item.past - item.first)) items)
  where
    inside : (b : Bool) → is_inside (map (λ m. length m) marks) n (slice_view item) ≡ b
        → (first_outside (map (λ m. length m) marks) (n + (item.past - item.first)) (slices_view items) ≡ None → AreInside marks (slices_view items)) → AreInside marks (slices_view (item ∷ items))
    inside true e rest = (inside-span marks n item e, rest (sym (first_outside-inside _ n (slice_view item) (slices_view items) e) ∙ none))
    inside false e rest = let some = sym (first_outside-outside (map (λ m. length m) marks) n (slice_view item) (slices_view items) e) ∙ none in cc

-- the first slice, and those behind it
pub view-first : (items : List SliceStruct) (item : SliceStruct) → 0 < length items → item ≡ get_or items 0 item
    → slices_view items ≡ slice_view item ∷ slices_view (take (length items - 1) (drop 1 items))
view-first items item some is = view-item items 0 item some is ∙ ap (λ rest. slice_view item ∷ slices_view rest) (sym (take_rest items 1))

-- a list without an element
pub no_slice : {A : Type 0} (slices : List A) → length slices ≡ 0 → slices ≡ []
no_slice [] none = refl
no_slice (slice ∷ slices) none = absurd (omega (arith, none))
