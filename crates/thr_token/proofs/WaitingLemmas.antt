-- The blocks at one place by the words of those that have not ended: the definition goes over all blocks, and passes those that
-- have ended. `PlaceTrees::at_place` cites these.
use Rattle.std.proofs.Common.{◌≡◌, ◌∙◌, ℕ, zero, suc, ◌+◌, ◌-◌, ◌*◌, ◌/◌, ◌%◌, ◌<◌, ◌≤◌, ℤ, Bool, false, List, [], ◌∷◌, ◌++◌, length, get_or, set, take, drop, Result, Ok, Err, refl, ap, sym, arith}
use Rattle.std.proofs.Math.ListN.{length-set}
use Rattle.std.proofs.lemmas.Bool.{lt-ltb, le-ltb}
use Rattle.std.proofs.lemmas.List.{append_assoc, append-nil, drop_all, drop-set-lt, take_more_set}
use Rattle.std.proofs.lemmas.List.Elements.{All-set}
use Rattle.std.proofs.Math.Seq.{drop-cons}
use Rattle.vid_base.specs.declared.fault.PacketFault.{PacketFault}
use Rattle.thr_token.specs.Coefficients.{Progress, Source, at_place, unended, unended_at, visit}
use Rattle.thr_token.specs.Standing.{progress, standing}
use Rattle.thr_token.specs.Listing.{IsListing, blocks_by, listed, places_in}
use Rattle.thr_token.proofs.StandingLemmas.{AreEven, length_standing, standing_at, standing_set, unended_before, unended_behind}
use Rattle.thr_token.proofs.PlaceLemmas.{place_done, place_fault, place_more, turn_pass}
use Rattle.thr_token.proofs.ListingLemmas.{IsAt, at_word, kept, listed_ended, listed_none, listed_open, tells, length-listed, length-places_in, places_in-listed, places_small}

-- the number of the first block that has a word, or how many blocks there are
abbrev pub next_block : ℕ → List ℕ → ℕ
next_block blocks [] = blocks
next_block blocks (word ∷ words) = word / 64

-- the blocks at a place from this one on
abbrev pub from_block : {S : Type 0} → Source S → ℕ → List Progress → ℕ → ℕ → S → Result ((List Progress × ℕ) × S) PacketFault
from_block next place blocks b run source = at_place next place (take b blocks) (drop b blocks) run source

-- blocks that have ended are passed
pass_ended : {S : Type 0} (next : Source S) (place : ℕ) (lumas : List Bool) (places : List ℕ) (values : List (List ℤ)) (counts : List ℕ) (run : ℕ) (source : S)
    → AreEven lumas places values counts → place < 64 → (left b : ℕ) → b + left ≡ length lumas
    → from_block next place (standing lumas places values counts) (next_block (length lumas) (listed b (drop b places))) run source ≡ from_block next place (standing lumas places values counts) b run source
pass_ended next place lumas places values counts run source even low zero b e =
    let none : drop b places ≡ [] = drop_all b places (omega (arith, even.places_are)) in
    let all : length lumas ≡ b = omega arith in
    rw (none, listed_none b) (ap (λ k. from_block next place (standing lumas places values counts) k run source) all)
pass_ended next place lumas places values counts run source even low (suc left) b e =
    go (pass_ended next place lumas places values counts run source even low left (b + 1) (omega arith))
  where
    n : ℕ
    n = length lumas

    blocks : List Progress
    blocks = standing lumas places values counts

    p : ℕ
    p = get_or places b 0

    within : b < length places
    within = omega (arith, even.places_are)

    next_is : suc b ≡ b + 1
    next_is = omega arith

    here : drop b places ≡ p ∷ drop (b + 1) places
    here = drop-cons places b 0 within ∙ ap (λ k. p ∷ drop k places) next_is

    go : from_block next place blocks (next_block n (listed (b + 1) (drop (b + 1) places))) run source ≡ from_block next place blocks (b + 1) run source
        → from_block next place blocks (next_block n (listed b (drop b places))) run source ≡ from_block next place blocks b run source
    go more = rw here (tells p (from_block next place blocks (next_block n (listed b (p ∷ drop (b + 1) places))) run source ≡ from_block next place blocks b run source)
        (λ h. let first : (64 * b + p) / 64 ≡ b = omega arith in
        rw (listed_open b p (drop (b + 1) places) h) (ap (λ k. from_block next place blocks k run source) first))
        (λ h. rw (listed_ended b p (drop (b + 1) places) h)
        (more ∙ turn_pass next place b lumas places values counts run source even (omega (arith, even.places_are)) (λ is. omega arith))))

-- before the first word
pub from_front : {S : Type 0} (next : Source S) (place : ℕ) (lumas : List Bool) (words : List ℕ) (values : List (List ℤ)) (counts : List ℕ) (run : ℕ) (source : S)
    → place < 64 → IsListing (length lumas) words → length values ≡ length lumas → length counts ≡ length lumas
    → from_block next place (blocks_by lumas words values counts) (next_block (length lumas) words) run source ≡ at_place next place [] (blocks_by lumas words values counts) run source
from_front next place lumas words values counts run source low listing v c =
    let places : List ℕ = places_in 0 (length lumas) words in
    let even : AreEven lumas places values counts = record { places_are = length-places_in 0 (length lumas) words; values_are = v; counts_are = c } in
    ap (λ w. from_block next place (blocks_by lumas words values counts) (next_block (length lumas) w) run source) (sym listing.same)
    ∙ pass_ended next place lumas places values counts run source even low (length lumas) 0 (omega arith)

-- behind the last word
pub from_end : {S : Type 0} (next : Source S) (place : ℕ) (lumas : List Bool) (words : List ℕ) (values : List (List ℤ)) (counts : List ℕ) (run : ℕ) (source : S)
    → length values ≡ length lumas → length counts ≡ length lumas
    → from_block next place (blocks_by lumas (words ++ []) values counts) (length lumas) run source ≡ Ok ((blocks_by lumas words values counts, run), source)
from_end next place lumas words values counts run source v c =
    let places : List ℕ = places_in 0 (length lumas) words in
    let even : AreEven lumas places values counts = record { places_are = length-places_in 0 (length lumas) words; values_are = v; counts_are = c } in
    rw (append-nil words) (place_done next place (length lumas) (blocks_by lumas words values counts) run source (omega (arith, length_standing lumas places values counts even)))

-- the blocks around one that has a word
others_are : (lumas : List Bool) (places : List ℕ) (values : List (List ℤ)) (counts : List ℕ) (before : List ℕ) (b now : ℕ) (behind : List ℕ) → AreEven lumas places values counts → IsAt places before b now behind
    → unended (take b (standing lumas places values counts)) + unended (drop (b + 1) (standing lumas places values counts)) ≡ length before + length behind
others_are lumas places values counts before b now behind even at =
    let front : length before ≡ unended_at (take b places) = ap length (sym at.front) ∙ length-listed 0 (take b places) in
    let rest : length behind ≡ unended_at (drop (b + 1) places) = ap length (sym at.rest) ∙ length-listed (b + 1) (drop (b + 1) places) in
    rw (unended_before lumas places values counts b even, unended_behind lumas places values counts (b + 1) even, front, rest) refl

-- that block by its parts
visit_is : {S : Type 0} (next : Source S) (place : ℕ) (lumas : List Bool) (places : List ℕ) (values : List (List ℤ)) (counts : List ℕ) (before : List ℕ) (b now : ℕ) (behind : List ℕ) (run : ℕ) (source : S)
    → AreEven lumas places values counts → IsAt places before b now behind
    → visit next place (unended (take b (standing lumas places values counts)) + unended (drop (b + 1) (standing lumas places values counts))) (get_or (standing lumas places values counts) b (progress false 0 [] 0)) run source
    ≡ visit next place (length before + length behind) (progress (get_or lumas b false) now (get_or values b []) (get_or counts b 0)) run source
visit_is next place lumas places values counts before b now behind run source even at =
    let within : b < length lumas = omega (arith, at.within, even.places_are) in
    rw (others_are lumas places values counts before b now behind even at, standing_at lumas places values counts b (progress false 0 [] 0) even within, at.stands) refl

-- one block more
more : {S : Type 0} (next : Source S) (place : ℕ) (lumas : List Bool) (places : List ℕ) (values : List (List ℤ)) (counts : List ℕ) (before : List ℕ) (b now : ℕ) (behind : List ℕ) (run stands : ℕ) (block : List ℤ) (count rest : ℕ) (source left : S)
    → place < 64 → AreEven lumas places values counts → IsAt places before b now behind
    → visit next place (length before + length behind) (progress (get_or lumas b false) now (get_or values b []) (get_or counts b 0)) run source ≡ Ok ((progress (get_or lumas b false) stands block count, rest), left)
    → from_block next place (standing lumas (set places b stands) (set values b block) (set counts b count)) (next_block (length lumas) behind) rest left
    ≡ from_block next place (standing lumas places values counts) b run source
more {S} next place lumas places values counts before b now behind run stands block count rest source left low even at e =
    let within : b < length lumas = omega (arith, at.within, even.places_are) in
    let long : b < length (standing lumas places values counts) = omega (arith, length_standing lumas places values counts even) in
    let after : AreEven lumas (set places b stands) (set values b block) (set counts b count) =
    record { places_are = length-set places b stands ∙ even.places_are; values_are = length-set values b block ∙ even.values_are; counts_are = length-set counts b count ∙ even.counts_are } in
    let same : drop (b + 1) (set places b stands) ≡ drop (b + 1) places = drop-set-lt (b + 1) places b stands (omega arith) in
    let behind_is : listed (b + 1) (drop (b + 1) (set places b stands)) ≡ behind = ap (listed (b + 1)) same ∙ at.rest in
    ap (λ w. from_block next place (standing lumas (set places b stands) (set values b block) (set counts b count)) (next_block (length lumas) w) rest left) (sym behind_is)
    ∙ pass_ended next place lumas (set places b stands) (set values b block) (set counts b count) rest left after low (length lumas - (b + 1)) (b + 1) (omega arith)
    ∙ ap (λ z. from_block next place z (b + 1) rest left) (standing_set lumas places values counts b stands block count even within)
    ∙ place_more next place b (standing lumas places values counts) (progress false 0 [] 0) (progress (get_or lumas b false) stands block count) run rest source left long
    (visit_is next place lumas places values counts before b now behind run source even at ∙ e)

-- what is known behind the block of a word
pub record IsBehind {S : Type 0} (next : Source S) (place : ℕ) (lumas : List Bool) (before : List ℕ) (word : ℕ) (behind : List ℕ) (values : List (List ℤ)) (counts : List ℕ) (run stands : ℕ) (block : List ℤ) (count rest : ℕ) (source left : S) : Type 0 where
  pub listing : IsListing (length lumas) (before ++ kept (word / 64) stands behind)
  pub same : from_block next place (blocks_by lumas (before ++ kept (word / 64) stands behind) (set values (word / 64) block) (set counts (word / 64) count)) (next_block (length lumas) behind) rest left
      ≡ from_block next place (blocks_by lumas (before ++ word ∷ behind) values counts) (word / 64) run source

pub word_more : {S : Type 0} (next : Source S) (place : ℕ) (lumas : List Bool) (before : List ℕ) (word : ℕ) (behind : List ℕ) (values : List (List ℤ)) (counts : List ℕ) (run stands : ℕ) (block : List ℤ) (count rest : ℕ) (source left : S)
    → place < 64 → stands ≤ 64 → IsListing (length lumas) (before ++ word ∷ behind) → length values ≡ length lumas → length counts ≡ length lumas
    → (others : ℕ) (luma : Bool) → others ≡ length before + length behind → luma ≡ get_or lumas (word / 64) false
    → visit next place others (progress luma (word % 64) (get_or values (word / 64) []) (get_or counts (word / 64) 0)) run source ≡ Ok ((progress luma stands block count, rest), left)
    → IsBehind next place lumas before word behind values counts run stands block count rest source left
word_more {S} next place lumas before word behind values counts run stands block count rest source left low small listing v c others luma o l visited =
    let e : visit next place (length before + length behind) (progress (get_or lumas (word / 64) false) (word % 64) (get_or values (word / 64) []) (get_or counts (word / 64) 0)) run source
    ≡ Ok ((progress (get_or lumas (word / 64) false) stands block count, rest), left) = rw (← o, ← l) visited in
    let b : ℕ = word / 64 in
    let words : List ℕ = before ++ word ∷ behind in
    let places : List ℕ = places_in 0 (length lumas) words in
    let even : AreEven lumas places values counts = record { places_are = length-places_in 0 (length lumas) words; values_are = v; counts_are = c } in
    let at : IsAt places before b (word % 64) behind = at_word places before word behind listing.same in
    let changed : List ℕ = set places b stands in
    let long : length changed ≡ length lumas = length-set places b stands ∙ even.places_are in
    let back : places_in 0 (length changed) (listed 0 changed) ≡ changed = places_in-listed 0 changed (All-set (λ place. place ≤ 64) places b stands small (places_small 0 (length lumas) words)) in
    let new : List ℕ = before ++ kept b stands behind in
    let is : places_in 0 (length lumas) new ≡ changed = ap (λ n. places_in 0 n new) (sym long) ∙ ap (places_in 0 (length changed)) (sym (at.replaced stands)) ∙ back in
    record {
      listing = record { same = ap (listed 0) is ∙ at.replaced stands };
      same = ap (λ z. from_block next place (standing lumas z (set values b block) (set counts b count)) (next_block (length lumas) behind) rest left) is
          ∙ more next place lumas places values counts before b (word % 64) behind run stands block count rest source left low even at e;
    }

-- the block of a word is one of the frame
pub word_within : (lumas : List Bool) (before : List ℕ) (word : ℕ) (behind : List ℕ) → IsListing (length lumas) (before ++ word ∷ behind) → word / 64 < length lumas
word_within lumas before word behind listing =
    let words : List ℕ = before ++ word ∷ behind in
    let at = at_word (places_in 0 (length lumas) words) before word behind listing.same in
    omega (arith, at.within, length-places_in 0 (length lumas) words)

-- a fault at it
pub word_fault : {S : Type 0} (next : Source S) (place : ℕ) (lumas : List Bool) (before : List ℕ) (word : ℕ) (behind : List ℕ) (values : List (List ℤ)) (counts : List ℕ) (run : ℕ) (source : S) (fault : PacketFault)
    → IsListing (length lumas) (before ++ word ∷ behind) → length values ≡ length lumas → length counts ≡ length lumas
    → (others : ℕ) (luma : Bool) → others ≡ length before + length behind → luma ≡ get_or lumas (word / 64) false
    → visit next place others (progress luma (word % 64) (get_or values (word / 64) []) (get_or counts (word / 64) 0)) run source ≡ Err fault
    → from_block next place (blocks_by lumas (before ++ word ∷ behind) values counts) (word / 64) run source ≡ Err fault
word_fault next place lumas before word behind values counts run source fault listing v c others luma o l visited =
    let e : visit next place (length before + length behind) (progress (get_or lumas (word / 64) false) (word % 64) (get_or values (word / 64) []) (get_or counts (word / 64) 0)) run source ≡ Err fault = rw (← o, ← l) visited in
    let b : ℕ = word / 64 in
    let words : List ℕ = before ++ word ∷ behind in
    let places : List ℕ = places_in 0 (length lumas) words in
    let even : AreEven lumas places values counts = record { places_are = length-places_in 0 (length lumas) words; values_are = v; counts_are = c } in
    let at : IsAt places before b (word % 64) behind = at_word places before word behind listing.same in
    let long : b < length (standing lumas places values counts) = omega (arith, length_standing lumas places values counts even, at.within, even.places_are) in
    place_fault next place b (standing lumas places values counts) (progress false 0 [] 0) run source fault long
    (visit_is next place lumas places values counts before b (word % 64) behind run source even at ∙ e)

-- the list after one word: the words that are kept, and those behind them
pub record IsKept (k low : ℕ) (list : List ℕ) (new_low : ℕ) (new : List ℕ) (b stands : ℕ) : Type 0 where
  pub low_is : new_low ≤ k + 1
  pub words : take new_low new ++ drop (k + 1) new ≡ take low list ++ kept b stands (drop (k + 1) list)
  pub behind : drop (k + 1) new ≡ drop (k + 1) list

pub block_stays : (k low : ℕ) (list : List ℕ) (new_low : ℕ) (new : List ℕ) (b stands word : ℕ) → k < length list → low ≤ k → stands < 64 → word ≡ 64 * b + stands → new ≡ set list low word → new_low ≡ low + 1
    → IsKept k low list new_low new b stands
block_stays k low list new_low new b stands word h l below is new_is low_is =
    let front : take (low + 1) (set list low word) ≡ take low list ++ word ∷ [] = take_more_set list low word (omega arith) in
    let behind : drop (k + 1) (set list low word) ≡ drop (k + 1) list = drop-set-lt (k + 1) list low word (omega arith) in
    record {
      low_is = omega arith;
      words = rw (new_is, low_is, front, behind, append_assoc, is, lt-ltb stands 64 below) refl;
      behind = ap (drop (k + 1)) new_is ∙ behind;
    }

pub block_ends : (k low : ℕ) (list : List ℕ) (new_low : ℕ) (new : List ℕ) (b stands : ℕ) → low ≤ k → 64 ≤ stands → new ≡ list → new_low ≡ low → IsKept k low list new_low new b stands
block_ends k low list new_low new b stands l above new_is low_is = record {
  low_is = omega arith;
  words = rw (new_is, low_is, le-ltb stands 64 above) refl;
  behind = ap (drop (k + 1)) new_is;
}
