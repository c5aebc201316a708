-- The words of the blocks that have not ended: one word, a change of it, the places that they stand for. `PlaceTrees::at_place` cites these.
use Rattle.std.proofs.Common.{◌≡◌, ◌∙◌, ℕ, zero, suc, ◌+◌, ◌*◌, ◌/◌, ◌%◌, ◌<◌, ◌≤◌, Bool, true, false, cond, List, [], ◌∷◌, ◌++◌, length, get_or, set, take, drop, refl, ap, sym, subst, arith}
use Rattle.std.specs.Prelude.{nat_lt, All, filter, map}
use Rattle.std.proofs.Math.Dec.{eqb}
use Rattle.std.proofs.lemmas.Bool.{eq-eqb, ne_eqb, lt-ltb, le-ltb, ltb-true, ltb-false}
use Rattle.std.proofs.lemmas.List.Elements.{All-nil, All-cons, All-head, All-tail, All-weaker}
use Rattle.std.proofs.lemmas.List.{length-map, length-take, map-append, take_more}
use Rattle.std.proofs.lemmas.List.Sums.{length-filter}
use Rattle.thr_token.specs.Coefficients.{first_place, unended_at}
use Rattle.thr_token.specs.Listing.{IsListing, listed, places_in}

-- as many places as blocks
pub length-places_in : (b n : ℕ) (words : List ℕ) → length (places_in b n words) ≡ n
unfolding places_in
length-places_in b zero words = refl
length-places_in b (suc n) [] = ap suc (length-places_in (b + 1) n [])
length-places_in b (suc n) (word ∷ words) = go (λ others. length-places_in (b + 1) n others) (eqb (word / 64) b)
  where
    go : ((others : List ℕ) → length (places_in (b + 1) n others) ≡ n) → (here : Bool) → length (cond here ((word % 64) ∷ places_in (b + 1) n words) (64 ∷ places_in (b + 1) n (word ∷ words))) ≡ suc n
    go long true = ap suc (long words)
    go long false = ap suc (long (word ∷ words))

abbrev AtMost64 : ℕ → Type 0
AtMost64 place = place ≤ 64

-- each of them is at most 64
pub places_small : (b n : ℕ) (words : List ℕ) → All (λ place. place ≤ 64) (places_in b n words)
unfolding places_in
places_small b zero words = All-nil AtMost64
places_small b (suc n) [] = All-cons AtMost64 64 (places_in (b + 1) n []) (omega arith) (places_small (b + 1) n [])
places_small b (suc n) (word ∷ words) = go (λ others. places_small (b + 1) n others) (eqb (word / 64) b)
  where
    go : ((others : List ℕ) → All (λ place. place ≤ 64) (places_in (b + 1) n others)) → (here : Bool) → All (λ place. place ≤ 64) (cond here ((word % 64) ∷ places_in (b + 1) n words) (64 ∷ places_in (b + 1) n (word ∷ words)))
    go small true = All-cons AtMost64 (word % 64) (places_in (b + 1) n words) (omega arith) (small words)
    go small false = All-cons AtMost64 64 (places_in (b + 1) n (word ∷ words)) (omega arith) (small (word ∷ words))

pub listed_none : (b : ℕ) → listed b [] ≡ []
unfolding listed
listed_none b = refl

no_places : (b : ℕ) (words : List ℕ) → places_in b 0 words ≡ []
unfolding places_in
no_places b words = refl

-- a block that has not ended has the first word, and one that has has none
pub listed_open : (b place : ℕ) (places : List ℕ) → place < 64 → listed b (place ∷ places) ≡ (64 * b + place) ∷ listed (b + 1) places
unfolding listed
listed_open b place places h = rw (lt-ltb place 64 h) refl

pub listed_ended : (b place : ℕ) (places : List ℕ) → 64 ≤ place → listed b (place ∷ places) ≡ listed (b + 1) places
unfolding listed
listed_ended b place places h = rw (le-ltb place 64 h) refl

-- which of the two it is
pub tells : (place : ℕ) (P : Type 0) → (place < 64 → P) → (64 ≤ place → P) → P
tells place P below above = go (nat_lt place 64) refl
  where
    go : (t : Bool) → nat_lt place 64 ≡ t → P
    go true e = below (ltb-true place 64 e)
    go false e = above (ltb-false place 64 e)

abbrev IsFrom : ℕ → ℕ → Type 0
IsFrom b word = b ≤ word / 64

-- the words are those of blocks from this number on
listed_above : (b : ℕ) (places : List ℕ) → All (IsFrom b) (listed b places)
listed_above b [] = rw (listed_none b) (All-nil (IsFrom b))
listed_above b (place ∷ places) = go (All-weaker (IsFrom (b + 1)) (IsFrom b) (λ word h. omega arith) (listed (b + 1) places) (listed_above (b + 1) places))
  where
    go : All (IsFrom b) (listed (b + 1) places) → All (IsFrom b) (listed b (place ∷ places))
    go others = tells place (All (IsFrom b) (listed b (place ∷ places)))
        (λ h. rw (listed_open b place places h) (All-cons (IsFrom b) (64 * b + place) (listed (b + 1) places) (omega arith) others))
        (λ h. rw (listed_ended b place places h) others)

-- a block that has no word has ended
skipped : (b n : ℕ) (words : List ℕ) → All (IsFrom (b + 1)) words → places_in b (suc n) words ≡ 64 ∷ places_in (b + 1) n words
unfolding places_in
skipped b n [] h = refl
skipped b n (word ∷ words) h =
    let low : b + 1 ≤ word / 64 = All-head (IsFrom (b + 1)) word words h in
    let other : eqb (word / 64) b ≡ false = ne_eqb (word / 64) b (omega arith) in
    rw other refl

told : (b n place : ℕ) (words : List ℕ) → place < 64 → places_in b (suc n) ((64 * b + place) ∷ words) ≡ place ∷ places_in (b + 1) n words
unfolding places_in
told b n place words h =
    let number : eqb ((64 * b + place) / 64) b ≡ true = eq-eqb ((64 * b + place) / 64) b (omega arith) in
    let rest : (64 * b + place) % 64 ≡ place = omega arith in
    rw (number, rest) refl

-- the words of places stand for these places
pub places_in-listed : (b : ℕ) (places : List ℕ) → All (λ place. place ≤ 64) places → places_in b (length places) (listed b places) ≡ places
places_in-listed b [] small = no_places b (listed b [])
places_in-listed b (place ∷ places) small = go (places_in-listed (b + 1) places (All-tail (λ place. place ≤ 64) place places small))
  where
    top : place ≤ 64
    top = All-head (λ place. place ≤ 64) place places small

    go : places_in (b + 1) (length places) (listed (b + 1) places) ≡ places → places_in b (suc (length places)) (listed b (place ∷ places)) ≡ place ∷ places
    go others = tells place (places_in b (suc (length places)) (listed b (place ∷ places)) ≡ place ∷ places)
        (λ h. rw (listed_open b place places h, told b (length places) place (listed (b + 1) places) h) (ap (λ z. place ∷ z) others))
        (λ h. let last : 64 ≡ place = omega (arith, top) in
        rw (listed_ended b place places h, skipped b (length places) (listed (b + 1) places) (listed_above (b + 1) places)) (ap (λ z. 64 ∷ z) others ∙ ap (λ z. z ∷ places) last))

-- as many words as blocks that have not ended
as_many : (b : ℕ) (places : List ℕ) → length (listed b places) ≡ length (filter (λ place. nat_lt place 64) places)
unfolding listed
as_many b [] = refl
as_many b (place ∷ places) = go (as_many (b + 1) places) (nat_lt place 64)
  where
    go : length (listed (b + 1) places) ≡ length (filter (λ place. nat_lt place 64) places)
        → (t : Bool) → length (cond t ((64 * b + place) ∷ listed (b + 1) places) (listed (b + 1) places)) ≡ length (cond t (place ∷ filter (λ place. nat_lt place 64) places) (filter (λ place. nat_lt place 64) places))
    go others true = ap suc others
    go others false = others

pub length-listed : (b : ℕ) (places : List ℕ) → length (listed b places) ≡ unended_at places
length-listed b places = as_many b places ∙ length-filter (λ place. nat_lt place 64) places

-- the word of a block that stands at this place, in front of others
abbrev pub kept : ℕ → ℕ → List ℕ → List ℕ
kept b place words = cond (nat_lt place 64) ((64 * b + place) ∷ words) words

-- a word is that of the block of its number, the words before it are those of the blocks before, and those behind it of the blocks behind
pub record IsSplit (b : ℕ) (places before : List ℕ) (word : ℕ) (behind : List ℕ) : Type 0 where
  pub index : ℕ
  pub number : word / 64 ≡ b + index
  pub within : index < length places
  pub stands : get_or places index 0 ≡ word % 64
  pub front : listed b (take index places) ≡ before
  pub rest : listed (b + index + 1) (drop (index + 1) places) ≡ behind
  pub replaced : (place : ℕ) → listed b (set places index place) ≡ before ++ kept (b + index) place behind

split_here : (b place : ℕ) (places : List ℕ) (word : ℕ) (behind : List ℕ) → place < 64 → 64 * b + place ≡ word → listed (b + 1) places ≡ behind → IsSplit b (place ∷ places) [] word behind
unfolding listed
split_here b place places word behind h is rest = record {
  index = 0;
  number = omega arith;
  within = omega arith;
  stands = omega arith;
  front = refl;
  rest = (let e : b + 0 + 1 ≡ b + 1 = omega arith in rw e rest);
  replaced = λ p. (let e : b + 0 ≡ b = omega arith in rw (e, rest) refl);
}

split_open : (b place : ℕ) (places before : List ℕ) (word : ℕ) (behind : List ℕ) → place < 64 → IsSplit (b + 1) places before word behind → IsSplit b (place ∷ places) ((64 * b + place) ∷ before) word behind
split_open b place places before word behind h s = record {
  index = suc s.index;
  number = omega arith;
  within = omega arith;
  stands = s.stands;
  front = listed_open b place (take s.index places) h ∙ ap (λ z. (64 * b + place) ∷ z) s.front;
  rest = (let e : b + suc s.index + 1 ≡ b + 1 + s.index + 1 = omega arith in let d : suc s.index + 1 ≡ suc (s.index + 1) = omega arith in rw (e, d) s.rest);
  replaced = λ p. (let e : b + suc s.index ≡ b + 1 + s.index = omega arith in rw e (listed_open b place (set places s.index p) h ∙ ap (λ z. (64 * b + place) ∷ z) (s.replaced p)));
}

split_ended : (b place : ℕ) (places before : List ℕ) (word : ℕ) (behind : List ℕ) → 64 ≤ place → IsSplit (b + 1) places before word behind → IsSplit b (place ∷ places) before word behind
split_ended b place places before word behind h s = record {
  index = suc s.index;
  number = omega arith;
  within = omega arith;
  stands = s.stands;
  front = listed_ended b place (take s.index places) h ∙ s.front;
  rest = (let e : b + suc s.index + 1 ≡ b + 1 + s.index + 1 = omega arith in let d : suc s.index + 1 ≡ suc (s.index + 1) = omega arith in rw (e, d) s.rest);
  replaced = λ p. (let e : b + suc s.index ≡ b + 1 + s.index = omega arith in rw e (listed_ended b place (set places s.index p) h ∙ s.replaced p));
}

split_none : (b : ℕ) (before : List ℕ) (word : ℕ) (behind : List ℕ) → listed b [] ≡ before ++ word ∷ behind → ⊥
unfolding listed
split_none b [] word behind e = cc
split_none b (x ∷ before) word behind e = cc

split_more : (b place : ℕ) (places before : List ℕ) (word : ℕ) (behind : List ℕ)
    → ((front : List ℕ) → listed (b + 1) places ≡ front ++ word ∷ behind → IsSplit (b + 1) places front word behind)
    → listed b (place ∷ places) ≡ before ++ word ∷ behind → IsSplit b (place ∷ places) before word behind
split_more b place places before word behind others e = tells place (IsSplit b (place ∷ places) before word behind)
    (λ h. opened before h (sym (listed_open b place places h) ∙ e))
    (λ h. split_ended b place places before word behind h (others before (sym (listed_ended b place places h) ∙ e)))
  where
    opened : (before : List ℕ) → place < 64 → (64 * b + place) ∷ listed (b + 1) places ≡ before ++ word ∷ behind → IsSplit b (place ∷ places) before word behind
    opened [] h e = split_here b place places word behind h (cc) (cc)
    opened (x ∷ before) h e =
        let is : 64 * b + place ≡ x = cc in
        let rest : listed (b + 1) places ≡ before ++ word ∷ behind = cc in
        subst (λ z. IsSplit b (place ∷ places) (z ∷ before) word behind) is (split_open b place places before word behind h (others before rest))

pub split : (b : ℕ) (places before : List ℕ) (word : ℕ) (behind : List ℕ) → listed b places ≡ before ++ word ∷ behind → IsSplit b places before word behind
split b [] before word behind e = absurd (split_none b before word behind e)
split b (place ∷ places) before word behind e = split_more b place places before word behind (λ front h. split (b + 1) places front word behind h) e

-- the block of the word that stands behind these, and its place
pub record IsAt (places before : List ℕ) (b place : ℕ) (behind : List ℕ) : Type 0 where
  pub within : b < length places
  pub stands : get_or places b 0 ≡ place
  pub front : listed 0 (take b places) ≡ before
  pub rest : listed (b + 1) (drop (b + 1) places) ≡ behind
  pub replaced : (place : ℕ) → listed 0 (set places b place) ≡ before ++ kept b place behind

pub at_word : (places before : List ℕ) (word : ℕ) (behind : List ℕ) → listed 0 places ≡ before ++ word ∷ behind → IsAt places before (word / 64) (word % 64) behind
at_word places before word behind e =
    let s = split 0 places before word behind e in
    let number : s.index ≡ word / 64 = omega (arith, s.number) in
    let none : 0 + s.index ≡ s.index = omega arith in
    subst (λ b. IsAt places before b (word % 64) behind) number (record {
      within = s.within;
      stands = s.stands;
      front = s.front;
      rest = ap (λ b. listed (b + 1) (drop (s.index + 1) places)) (sym none) ∙ s.rest;
      replaced = λ p. s.replaced p ∙ ap (λ b. before ++ kept b p behind) none;
    })

pub listed-append : (b : ℕ) (front rest : List ℕ) → listed b (front ++ rest) ≡ listed b front ++ listed (b + length front) rest
listed-append b [] rest = (let none : b + 0 ≡ b = omega arith in rw (listed_none b, none) refl)
listed-append b (place ∷ front) rest = go (listed-append (b + 1) front rest)
  where
    number : b + suc (length front) ≡ b + 1 + length front
    number = omega arith

    go : listed (b + 1) (front ++ rest) ≡ listed (b + 1) front ++ listed (b + 1 + length front) rest → listed b (place ∷ (front ++ rest)) ≡ listed b (place ∷ front) ++ listed (b + suc (length front)) rest
    go others = rw number (tells place (listed b (place ∷ (front ++ rest)) ≡ listed b (place ∷ front) ++ listed (b + 1 + length front) rest)
        (λ h. rw (listed_open b place (front ++ rest) h, listed_open b place front h) (ap (λ z. (64 * b + place) ∷ z) others))
        (λ h. rw (listed_ended b place (front ++ rest) h, listed_ended b place front h) others))

one_listed : (b place : ℕ) → listed b (place ∷ []) ≡ kept b place []
unfolding listed
one_listed b place = refl

-- one block more, at the end
pub listed_more : (flags : List Bool) (b : ℕ) → b < length flags → listed 0 (map first_place (take (b + 1) flags)) ≡ listed 0 (map first_place (take b flags)) ++ kept b (first_place (get_or flags b false)) []
listed_more flags b h =
    let front : List ℕ = map first_place (take b flags) in
    let long : length front ≡ b = omega (arith, length-map (take b flags) first_place, length-take b flags) in
    let more : map first_place (take (b + 1) flags) ≡ front ++ first_place (get_or flags b false) ∷ [] =
    ap (map first_place) (take_more flags b false h) ∙ map-append first_place (take b flags) (get_or flags b false ∷ []) in
    let number : 0 + length front ≡ b = omega arith in
    ap (listed 0) more ∙ listed-append 0 front (first_place (get_or flags b false) ∷ []) ∙ ap (λ k. listed 0 front ++ listed k (first_place (get_or flags b false) ∷ [])) number
    ∙ ap (λ z. listed 0 front ++ z) (one_listed b (first_place (get_or flags b false)))

first_small : (flags : List Bool) → All (λ place. place ≤ 64) (map first_place flags)
first_small [] = All-nil AtMost64
first_small (true ∷ flags) = All-cons AtMost64 0 (map first_place flags) (omega arith) (first_small flags)
first_small (false ∷ flags) = All-cons AtMost64 64 (map first_place flags) (omega arith) (first_small flags)

-- the words of blocks before their first tokens
pub first_listed : (flags : List Bool) → IsListing (length flags) (listed 0 (map first_place flags)) × (places_in 0 (length flags) (listed 0 (map first_place flags)) ≡ map first_place flags)
first_listed flags =
    let long : length (map first_place flags) ≡ length flags = length-map flags first_place in
    let back : places_in 0 (length flags) (listed 0 (map first_place flags)) ≡ map first_place flags =
    subst (λ n. places_in 0 n (listed 0 (map first_place flags)) ≡ map first_place flags) long (places_in-listed 0 (map first_place flags) (first_small flags)) in
    (record { same = ap (listed 0) back }, back)
