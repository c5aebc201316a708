-- The progress of blocks and the lists of its parts: one block, a change of one block, the parts by themselves. The readers of places cite these.
use Rattle.std.proofs.Common.{◌≡◌, ◌∙◌, ℕ, zero, suc, ◌<◌, ℤ, Bool, false, List, [], ◌∷◌, length, map, get_or, set, take, drop, refl, ap, sym, arith, ◌++◌, ◌+◌, length-append}
use Rattle.std.specs.Prelude.{cond, nat_lt, filter}
use Rattle.std.proofs.lemmas.List.{append_assoc, drop-map, drop-set-lt, take-append-drop, take-map, take_more_set}
use Rattle.std.proofs.Math.Seq.{drop-cons}
use Rattle.std.proofs.lemmas.Bool.{lt-ltb}
use Rattle.std.proofs.lemmas.List.Elements.{filter-append}
use Rattle.std.proofs.lemmas.List.Sums.{length-filter}
use Rattle.thr_token.specs.Coefficients.{Progress, unended, unended_at}
use Rattle.thr_token.specs.Standing.{progress, standing}

-- lists of one length
pub record AreEven (lumas : List Bool) (places : List ℕ) (values : List (List ℤ)) (counts : List ℕ) : Type 0 where
  pub places_are : length places ≡ length lumas
  pub values_are : length values ≡ length lumas
  pub counts_are : length counts ≡ length lumas

-- as many blocks
pub length_standing : (lumas : List Bool) (places : List ℕ) (values : List (List ℤ)) (counts : List ℕ) → AreEven lumas places values counts → length (standing lumas places values counts) ≡ length lumas
unfolding standing
length_standing [] places values counts even = refl
length_standing (luma ∷ lumas) [] values counts even = absurd (omega arith)
length_standing (luma ∷ lumas) (place ∷ places) [] counts even = absurd (omega arith)
length_standing (luma ∷ lumas) (place ∷ places) (block ∷ values) [] even = absurd (omega arith)
length_standing (luma ∷ lumas) (place ∷ places) (block ∷ values) (count ∷ counts) even =
    ap suc (length_standing lumas places values counts (record { places_are = omega arith; values_are = omega arith; counts_are = omega arith }))

-- one block
pub standing_at : (lumas : List Bool) (places : List ℕ) (values : List (List ℤ)) (counts : List ℕ) (b : ℕ) (d : Progress) → AreEven lumas places values counts → b < length lumas
    → get_or (standing lumas places values counts) b d ≡ progress (get_or lumas b false) (get_or places b 0) (get_or values b []) (get_or counts b 0)
unfolding standing
standing_at [] places values counts b d even h = absurd (omega arith)
standing_at (luma ∷ lumas) [] values counts b d even h = absurd (omega arith)
standing_at (luma ∷ lumas) (place ∷ places) [] counts b d even h = absurd (omega arith)
standing_at (luma ∷ lumas) (place ∷ places) (block ∷ values) [] b d even h = absurd (omega arith)
standing_at (luma ∷ lumas) (place ∷ places) (block ∷ values) (count ∷ counts) zero d even h = refl
standing_at (luma ∷ lumas) (place ∷ places) (block ∷ values) (count ∷ counts) (suc b) d even h =
    standing_at lumas places values counts b d (record { places_are = omega arith; values_are = omega arith; counts_are = omega arith }) (omega arith)

-- a change of one block
pub standing_set : (lumas : List Bool) (places : List ℕ) (values : List (List ℤ)) (counts : List ℕ) (b place : ℕ) (block : List ℤ) (count : ℕ) → AreEven lumas places values counts → b < length lumas
    → standing lumas (set places b place) (set values b block) (set counts b count) ≡ set (standing lumas places values counts) b (progress (get_or lumas b false) place block count)
unfolding standing
standing_set [] places values counts b p v c even h = absurd (omega arith)
standing_set (luma ∷ lumas) [] values counts b p v c even h = absurd (omega arith)
standing_set (luma ∷ lumas) (place ∷ places) [] counts b p v c even h = absurd (omega arith)
standing_set (luma ∷ lumas) (place ∷ places) (block ∷ values) [] b p v c even h = absurd (omega arith)
standing_set (luma ∷ lumas) (place ∷ places) (block ∷ values) (count ∷ counts) zero p v c even h = refl
standing_set (luma ∷ lumas) (place ∷ places) (block ∷ values) (count ∷ counts) (suc b) p v c even h =
    ap (λ blocks. progress luma place block count ∷ blocks)
    (standing_set lumas places values counts b p v c (record { places_are = omega arith; values_are = omega arith; counts_are = omega arith }) (omega arith))

-- the places alone
pub places_in : (lumas : List Bool) (places : List ℕ) (values : List (List ℤ)) (counts : List ℕ) → AreEven lumas places values counts → map (λ b. b.place) (standing lumas places values counts) ≡ places
unfolding standing
places_in [] [] values counts even = refl
places_in [] (place ∷ places) values counts even = absurd (omega arith)
places_in (luma ∷ lumas) [] values counts even = absurd (omega arith)
places_in (luma ∷ lumas) (place ∷ places) [] counts even = absurd (omega arith)
places_in (luma ∷ lumas) (place ∷ places) (block ∷ values) [] even = absurd (omega arith)
places_in (luma ∷ lumas) (place ∷ places) (block ∷ values) (count ∷ counts) even =
    ap (λ others. place ∷ others) (places_in lumas places values counts (record { places_are = omega arith; values_are = omega arith; counts_are = omega arith }))

-- the coefficients alone
pub values_in : (lumas : List Bool) (places : List ℕ) (values : List (List ℤ)) (counts : List ℕ) → AreEven lumas places values counts → map (λ b. b.values) (standing lumas places values counts) ≡ values
unfolding standing
values_in [] places [] counts even = refl
values_in [] places (block ∷ values) counts even = absurd (omega arith)
values_in (luma ∷ lumas) [] values counts even = absurd (omega arith)
values_in (luma ∷ lumas) (place ∷ places) [] counts even = absurd (omega arith)
values_in (luma ∷ lumas) (place ∷ places) (block ∷ values) [] even = absurd (omega arith)
values_in (luma ∷ lumas) (place ∷ places) (block ∷ values) (count ∷ counts) even =
    ap (λ others. block ∷ others) (values_in lumas places values counts (record { places_are = omega arith; values_are = omega arith; counts_are = omega arith }))

-- the counts alone
pub counts_in : (lumas : List Bool) (places : List ℕ) (values : List (List ℤ)) (counts : List ℕ) → AreEven lumas places values counts → map (λ b. b.count) (standing lumas places values counts) ≡ counts
unfolding standing
counts_in [] places values [] even = refl
counts_in [] places values (count ∷ counts) even = absurd (omega arith)
counts_in (luma ∷ lumas) [] values counts even = absurd (omega arith)
counts_in (luma ∷ lumas) (place ∷ places) [] counts even = absurd (omega arith)
counts_in (luma ∷ lumas) (place ∷ places) (block ∷ values) [] even = absurd (omega arith)
counts_in (luma ∷ lumas) (place ∷ places) (block ∷ values) (count ∷ counts) even =
    ap (λ others. count ∷ others) (counts_in lumas places values counts (record { places_are = omega arith; values_are = omega arith; counts_are = omega arith }))

-- how many blocks before a block have not ended
pub unended_before : (lumas : List Bool) (places : List ℕ) (values : List (List ℤ)) (counts : List ℕ) (n : ℕ) → AreEven lumas places values counts → unended (take n (standing lumas places values counts)) ≡ unended_at (take n places)
unfolding unended
unended_before lumas places values counts n even =
    ap unended_at (sym (take-map (λ b. b.place) n (standing lumas places values counts)) ∙ ap (take n) (places_in lumas places values counts even))

-- and how many behind it
pub unended_behind : (lumas : List Bool) (places : List ℕ) (values : List (List ℤ)) (counts : List ℕ) (n : ℕ) → AreEven lumas places values counts → unended (drop n (standing lumas places values counts)) ≡ unended_at (drop n places)
unfolding unended
unended_behind lumas places values counts n even =
    ap unended_at (sym (drop-map (λ b. b.place) n (standing lumas places values counts)) ∙ ap (drop n) (places_in lumas places values counts even))

pub unended_append : (front rest : List ℕ) → unended_at (front ++ rest) ≡ unended_at front + unended_at rest
unended_append front rest =
    let test : ℕ → Bool = λ place. nat_lt place 64 in
    sym (length-filter test (front ++ rest)) ∙ ap length (filter-append test front rest) ∙ length-append (filter test front) (filter test rest)
    ∙ rw (length-filter test front, length-filter test rest) refl

-- one block among the others, which has not ended or has
pub unended_around : (front : List ℕ) (place : ℕ) (rest : List ℕ) → unended_at (front ++ place ∷ rest) ≡ unended_at front + unended_at rest + cond (nat_lt place 64) 1 0
unended_around front place rest = omega (arith, unended_append front (place ∷ rest), unended_append (place ∷ []) rest)

-- the others are one fewer where this one has not ended
pub unended_others : (places : List ℕ) (b : ℕ) → b < length places → get_or places b 0 < 64 → unended_at places ≡ unended_at (take b places) + unended_at (drop (b + 1) places) + 1
unended_others places b h below =
    let next : suc b ≡ b + 1 = omega arith in
    let apart : places ≡ take b places ++ get_or places b 0 ∷ drop (b + 1) places =
    sym (take-append-drop b places) ∙ ap (λ z. take b places ++ z) (drop-cons places b 0 h ∙ ap (λ k. get_or places b 0 ∷ drop k places) next) in
    ap unended_at apart ∙ unended_around (take b places) (get_or places b 0) (drop (b + 1) places) ∙ rw (lt-ltb (get_or places b 0) 64 below) refl

-- and this one is counted where it then has not
pub unended_set : (places : List ℕ) (b place : ℕ) → b < length places → unended_at (set places b place) ≡ unended_at (take b places) + unended_at (drop (b + 1) places) + cond (nat_lt place 64) 1 0
unended_set places b place h =
    let apart : set places b place ≡ take b places ++ place ∷ drop (b + 1) places =
    sym (take-append-drop (b + 1) (set places b place)) ∙ rw (take_more_set places b place h, drop-set-lt (b + 1) places b place (omega arith)) (append_assoc (take b places) (place ∷ []) (drop (b + 1) places)) in
    ap unended_at apart ∙ unended_around (take b places) place (drop (b + 1) places)
