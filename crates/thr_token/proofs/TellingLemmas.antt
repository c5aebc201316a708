-- What tokens say of blocks so far: one block more, the end of a place, the start and the end. `tokenise` and its parts cite these.
use Rattle.std.proofs.Common.{◌≡◌, ◌∙◌, ℕ, zero, suc, ◌+◌, ◌-◌, ◌<◌, ◌≤◌, ◌≢◌, ℤ, pos, Bool, true, false, nat_eq, nat_lt, List, [], ◌∷◌, length, get_or, set, take, drop, Option, Some, None, Ok, refl, ap, sym, subst, arith, get_or-set_same, get_or-set_other, not, inl, inr}
use Rattle.std.specs.Prelude.{if◌then◌else◌}
use Rattle.std.proofs.lemmas.List.{length-set}
use Rattle.std.proofs.Math.Dec.{eqb}
use Rattle.std.proofs.lemmas.Bool.{cases_eq, cases_lt, eq-eqb, ne_eqb, lt-ltb, le-ltb}
use Rattle.vid_base.specs.Reading.{◌>>=◌}
use Rattle.thr_token.specs.Tokens.{Meaning, EndRun, ZeroRun, Value}
use Rattle.thr_token.specs.declared.token.Token.{Token}
use Rattle.thr_token.specs.declared.run.Run.{Run}
use Rattle.thr_token.specs.Spellings.{IsSayable}
use Rattle.thr_token.specs.Coefficients.{Progress, places, taken, turn, unended_at}
use Rattle.thr_token.specs.Standing.{progress, standing}
use Rattle.thr_token.specs.Tokenised.{token_from}
use Rattle.thr_token.specs.Telling.{Answer, IsRead, IsTrueOf, Says, Steps, Telling, Told, from_block, from_place, place_behind, values_behind}
use Rattle.thr_token.proofs.StandingLemmas.{AreEven, length_standing}
use Rattle.thr_token.proofs.PlaceLemmas.{place_done, turn_more, turn_pass}

-- what was told, where reading goes on in another way that is as good
told_same : (whole : List Token → Answer) (rest next : ℕ → List Token → Answer) (tokens : List Token) (run : Option Run) → ((k : ℕ) (behind : List Token) → rest k behind ≡ next k behind)
    → Told whole rest tokens run → Told whole next tokens run
told_same whole rest next tokens None same held = λ behind. held behind ∙ same 0 behind
told_same whole rest next tokens (Some run) same held = λ more t behind says. held more t behind says ∙ same more behind

-- a block takes the token that is one for it
same_plane : (a b : Bool) → a ≡ b → (if a then b else not b) ≡ true
same_plane true true e = refl
same_plane false false e = refl
same_plane true false e = cc
same_plane false true e = cc

from_front : (place : ℕ) (luma : Bool) (meaning : Meaning) (t : Token) (behind : List Token) → Says place luma meaning t → token_from place luma (t ∷ behind) ≡ Ok (meaning, behind)
unfolding token_from
from_front place luma meaning t behind says =
    let there : nat_eq t.place place ≡ true = eq-eqb t.place place says.at in
    let plane = same_plane t.luma luma says.plane in
    rw (there, plane, says.means) refl

-- the turn of a block that takes a token
turn-token : (place others : ℕ) (luma : Bool) (read : List ℤ) (count : ℕ) (meaning : Meaning) (t : Token) (behind : List Token) → Says place luma meaning t
    → turn token_from place others (progress luma place read count) 0 (t ∷ behind) ≡ (taken place others (progress luma place read count) meaning >>= (λ after. Ok (after, behind)))
unfolding turn
turn-token place others luma read count meaning t behind says = rw (from_front place luma meaning t behind says) refl

-- an end-of-block run begins at a block
turn_begins : (place others : ℕ) (luma : Bool) (read : List ℤ) (count more : ℕ) (t : Token) (behind : List Token) → Says place luma (EndRun (1 + more)) t
    → turn token_from place others (progress luma place read count) 0 (t ∷ behind) ≡ Ok ((progress luma 64 read place, more), behind)
unfolding taken
turn_begins place others luma read count more t behind says =
    let some : nat_eq (1 + more) 0 ≡ false = ne_eqb (1 + more) 0 (λ z. absurd (omega arith)) in
    let less : 1 + more - 1 ≡ more = omega arith in
    turn-token place others luma read count (EndRun (1 + more)) t behind says ∙ rw (some, less) refl

-- or is active
turn_active : (place others : ℕ) (luma : Bool) (read : List ℤ) (count more : ℕ) (behind : List Token)
    → turn token_from place others (progress luma place read count) (suc more) behind ≡ Ok ((progress luma 64 read place, more), behind)
unfolding turn
turn_active place others luma read count more behind = refl

-- zeros are skipped
turn_zeros : (place others : ℕ) (luma : Bool) (read : List ℤ) (count zeros : ℕ) (t : Token) (behind : List Token) → place + zeros ≤ 64 → Says place luma (ZeroRun zeros) t
    → turn token_from place others (progress luma place read count) 0 (t ∷ behind) ≡ Ok ((progress luma (place + zeros) read place, 0), behind)
unfolding taken
turn_zeros place others luma read count zeros t behind h says =
    let within : nat_lt 64 (place + zeros) ≡ false = le-ltb 64 (place + zeros) h in
    turn-token place others luma read count (ZeroRun zeros) t behind says ∙ rw within refl

-- a value comes behind zeros
turn_value : (place others : ℕ) (luma : Bool) (read : List ℤ) (count zeros : ℕ) (value : ℤ) (t : Token) (behind : List Token) → place + zeros < 64 → Says place luma (Value zeros value) t
    → turn token_from place others (progress luma place read count) 0 (t ∷ behind) ≡ Ok ((progress luma (place + zeros + 1) (set read (place + zeros) value) place, 0), behind)
unfolding taken
turn_value place others luma read count zeros value t behind h says =
    let within : nat_lt (place + zeros) 64 ≡ true = lt-ltb (place + zeros) 64 h in
    turn-token place others luma read count (Value zeros value) t behind says ∙ rw within refl

even_of : (lumas : List Bool) (at : List ℕ) (read : List (List ℤ)) (counts : List ℕ) → (length at ≡ length lumas) × (length read ≡ length lumas) × (length counts ≡ length lumas) → AreEven lumas at read counts
even_of lumas at read counts sizes = record { places_are = sizes.0; values_are = sizes.1; counts_are = sizes.2 }

-- reading goes on behind a block that had its turn
block_more : (place b : ℕ) (lumas : List Bool) (at : List ℕ) (read : List (List ℤ)) (counts : List ℕ) (run stands : ℕ) (block : List ℤ) (left_run : ℕ) (tokens left : List Token)
    → AreEven lumas at read counts → b < length lumas → get_or at b 0 ≡ place
    → turn token_from place (unended_at (take b at) + unended_at (drop (b + 1) at)) (progress (get_or lumas b false) place (get_or read b []) (get_or counts b 0)) run tokens
    ≡ Ok ((progress (get_or lumas b false) stands block place, left_run), left)
    → from_block place b (standing lumas at read counts) run tokens ≡ from_block place (b + 1) (standing lumas (set at b stands) (set read b block) (set counts b place)) left_run left
block_more place b lumas at read counts run stands block left_run tokens left even h is e =
    ap (λ (r : Answer). r >>= (λ after. places token_from (64 - (place + 1)) (place + 1) after.0.0 after.0.1 after.1))
    (sym (turn_more token_from place b lumas at read counts run stands block left_run tokens left even h is e))

-- so it goes on behind whatever is said of the block
block_steps : (place b : ℕ) (lumas : List Bool) (values : List ℤ) (at : List ℕ) (read : List (List ℤ)) (counts : List ℕ) (luma : Bool) (meaning : Meaning)
    → AreEven lumas at read counts → b < length lumas → get_or at b 0 ≡ place → luma ≡ get_or lumas b false → IsTrueOf values place meaning
    → Steps place luma meaning (from_block place b (standing lumas at read counts))
    (from_block place (b + 1) (standing lumas (set at b (place_behind place meaning)) (set read b (values_behind place (get_or read b []) meaning)) (set counts b place)))
block_steps place b lumas values at read counts luma (EndRun blocks) even h is plane right = record {
  begins = λ more t behind says. block_more place b lumas at read counts 0 64 (get_or read b []) more (t ∷ behind) behind even h is
      (turn_begins place (unended_at (take b at) + unended_at (drop (b + 1) at)) (get_or lumas b false) (get_or read b []) (get_or counts b 0) more t behind (subst (λ l. Says place l (EndRun (1 + more)) t) plane says));
  active = λ more behind. block_more place b lumas at read counts (suc more) 64 (get_or read b []) more behind behind even h is
      (turn_active place (unended_at (take b at) + unended_at (drop (b + 1) at)) (get_or lumas b false) (get_or read b []) (get_or counts b 0) more behind);
}
block_steps place b lumas values at read counts luma (ZeroRun zeros) even h is plane right = λ t behind says.
    block_more place b lumas at read counts 0 (place + zeros) (get_or read b []) 0 (t ∷ behind) behind even h is
    (turn_zeros place (unended_at (take b at) + unended_at (drop (b + 1) at)) (get_or lumas b false) (get_or read b []) (get_or counts b 0) zeros t behind right.0 (subst (λ l. Says place l (ZeroRun zeros) t) plane says))
block_steps place b lumas values at read counts luma (Value zeros value) even h is plane right = λ t behind says.
    block_more place b lumas at read counts 0 (place + zeros + 1) (set (get_or read b []) (place + zeros) value) 0 (t ∷ behind) behind even h is
    (turn_value place (unended_at (take b at) + unended_at (drop (b + 1) at)) (get_or lumas b false) (get_or read b []) (get_or counts b 0) zeros value t behind right.0 (subst (λ l. Says place l (Value zeros value) t) plane says))

-- what was read of a block behind what is said of it
read_behind : (values : List ℤ) (place : ℕ) (read : List ℤ) (meaning : Meaning) → IsRead values place read → length values ≡ 64 → place < 64 → IsTrueOf values place meaning
    → IsRead values (place_behind place meaning) (values_behind place read meaning)
read_behind values place read (EndRun blocks) r whole h right = record {
  size = r.size;
  whole = λ _. whole;
  high = omega arith;
  front = λ i below. elim (cases_lt i place) [
    | inl before ↦ r.front i before
    | inr behind ↦ r.behind i behind below ∙ sym (right i behind below)
  ];
  behind = λ i from below. absurd (omega arith);
}
read_behind values place read (ZeroRun _) r whole h right = record {
  size = r.size;
  whole = λ _. whole;
  high = right.0;
  front = λ i below. elim (cases_lt i place) [
    | inl before ↦ r.front i before
    | inr behind ↦ r.behind i behind (omega (arith, right.0)) ∙ sym (right.1 i behind below)
  ];
  behind = λ i from below. r.behind i (omega arith) below;
}
read_behind values place read (Value zeros value) r whole h right = record {
  size = length-set read (place + zeros) value ∙ r.size;
  whole = λ _. whole;
  high = omega (arith, right.0);
  front = λ i below. elim (cases_lt i (place + zeros)) [
    | inl before ↦ get_or-set_other read (place + zeros) i value (pos 0) (λ e. absurd (omega arith)) ∙ elim (cases_lt i place) [
      | inl front ↦ r.front i front
      | inr behind ↦ r.behind i behind (omega (arith, right.0)) ∙ sym (right.1 i behind before)
    ]
    | inr behind ↦
        let is : i ≡ place + zeros = omega arith in
        let there : get_or (set read (place + zeros) value) (place + zeros) (pos 0) ≡ value = get_or-set_same read (place + zeros) value (pos 0) (omega (arith, r.size, right.0)) in
        rw is (there ∙ sym right.2)
  ];
  behind = λ i from below. get_or-set_other read (place + zeros) i value (pos 0) (λ e. absurd (omega arith)) ∙ r.behind i (omega arith) below;
}

-- one block more was said
pub telling_more : (whole : List Token → Answer) (place b : ℕ) (lumas : List Bool) (values : List (List ℤ)) (at : List ℕ) (old new : List Token) (run held : Option Run) (luma : Bool) (meaning : Meaning)
    → b < length lumas → get_or at b 0 ≡ place → luma ≡ get_or lumas b false → place < 64 → length (get_or values b []) ≡ 64 → IsTrueOf (get_or values b []) place meaning
    → ((rest next : ℕ → List Token → Answer) → Steps place luma meaning rest next → Told whole rest old run → Told whole next new held)
    → Telling whole (from_block place b) lumas values at old run → Telling whole (from_block place (b + 1)) lumas values (set at b (place_behind place meaning)) new held
telling_more whole place b lumas values at old new run held luma meaning h is plane low size right adds t = record {
  read = set t.read b (values_behind place (get_or t.read b []) meaning);
  counts = set t.counts b place;
  sizes = (length-set at b (place_behind place meaning) ∙ t.sizes.0, length-set t.read b (values_behind place (get_or t.read b []) meaning) ∙ t.sizes.1, length-set t.counts b place ∙ t.sizes.2);
  each = λ i within. elim (cases_eq i b) [
    | inl same ↦
        let here : IsRead (get_or values b []) place (get_or t.read b []) = subst (λ p. IsRead (get_or values b []) p (get_or t.read b [])) is (t.each b h) in
        let next = read_behind (get_or values b []) place (get_or t.read b []) meaning here size low right in
        let stands : get_or (set at b (place_behind place meaning)) b 0 ≡ place_behind place meaning = get_or-set_same at b (place_behind place meaning) 0 (omega (arith, t.sizes.0)) in
        let reads : get_or (set t.read b (values_behind place (get_or t.read b []) meaning)) b [] ≡ values_behind place (get_or t.read b []) meaning =
        get_or-set_same t.read b (values_behind place (get_or t.read b []) meaning) [] (omega (arith, t.sizes.1)) in
        rw (same, stands, reads) next
    | inr elsewhere ↦
        let stands : get_or (set at b (place_behind place meaning)) i 0 ≡ get_or at i 0 = get_or-set_other at b i (place_behind place meaning) 0 elsewhere in
        let reads : get_or (set t.read b (values_behind place (get_or t.read b []) meaning)) i [] ≡ get_or t.read i [] =
        get_or-set_other t.read b i (values_behind place (get_or t.read b []) meaning) [] elsewhere in
        rw (stands, reads) (t.each i within)
  ];
  told = adds (from_block place b (standing lumas at t.read t.counts))
      (from_block place (b + 1) (standing lumas (set at b (place_behind place meaning)) (set t.read b (values_behind place (get_or t.read b []) meaning)) (set t.counts b place)))
      (block_steps place b lumas (get_or values b []) at t.read t.counts luma meaning (even_of lumas at t.read t.counts t.sizes) h is plane right) t.told;
}

-- a block that stands elsewhere has no turn
pub telling_pass : (whole : List Token → Answer) (place b : ℕ) (lumas : List Bool) (values : List (List ℤ)) (at : List ℕ) (tokens : List Token) (run : Option Run) → b < length lumas → get_or at b 0 ≢ place
    → Telling whole (from_block place b) lumas values at tokens run → Telling whole (from_block place (b + 1)) lumas values at tokens run
telling_pass whole place b lumas values at tokens run h ne t = record {
  read = t.read;
  counts = t.counts;
  sizes = t.sizes;
  each = t.each;
  told = told_same whole (from_block place b (standing lumas at t.read t.counts)) (from_block place (b + 1) (standing lumas at t.read t.counts)) tokens run
      (λ k behind. ap (λ (r : Answer). r >>= (λ after. places token_from (64 - (place + 1)) (place + 1) after.0.0 after.0.1 after.1))
      (sym (turn_pass token_from place b lumas at t.read t.counts k behind (even_of lumas at t.read t.counts t.sizes) h ne))) t.told;
}

place_opens : (place : ℕ) (blocks : List Progress) (k : ℕ) (behind : List Token) → place < 64 → from_place place blocks k behind ≡ from_block place 0 blocks k behind
unfolding places
place_opens place blocks k behind h = let more : 64 - place ≡ suc (64 - (place + 1)) = omega arith in rw more refl

-- a place begins with its first block
pub telling_begin : (whole : List Token → Answer) (place : ℕ) (lumas : List Bool) (values : List (List ℤ)) (at : List ℕ) (tokens : List Token) (run : Option Run) → place < 64
    → Telling whole (from_place place) lumas values at tokens run → Telling whole (from_block place 0) lumas values at tokens run
telling_begin whole place lumas values at tokens run h t = record {
  read = t.read;
  counts = t.counts;
  sizes = t.sizes;
  each = t.each;
  told = told_same whole (from_place place (standing lumas at t.read t.counts)) (from_block place 0 (standing lumas at t.read t.counts)) tokens run
      (λ k behind. place_opens place (standing lumas at t.read t.counts) k behind h) t.told;
}

place_closes : (place b : ℕ) (blocks : List Progress) (k : ℕ) (behind : List Token) → length blocks ≤ b → from_block place b blocks k behind ≡ from_place (place + 1) blocks k behind
place_closes place b blocks k behind h = rw (place_done token_from place b blocks k behind h) refl

-- and ends with its last
pub telling_end : (whole : List Token → Answer) (place b : ℕ) (lumas : List Bool) (values : List (List ℤ)) (at : List ℕ) (tokens : List Token) (run : Option Run) → length lumas ≤ b
    → Telling whole (from_block place b) lumas values at tokens run → Telling whole (from_place (place + 1)) lumas values at tokens run
telling_end whole place b lumas values at tokens run h t = record {
  read = t.read;
  counts = t.counts;
  sizes = t.sizes;
  each = t.each;
  told = told_same whole (from_block place b (standing lumas at t.read t.counts)) (from_place (place + 1) (standing lumas at t.read t.counts)) tokens run
      (λ k behind. place_closes place b (standing lumas at t.read t.counts) k behind
      (omega (arith, length_standing lumas at t.read t.counts (even_of lumas at t.read t.counts t.sizes)))) t.told;
}

-- a block of which something is said stands at a later place then
pub moved : (values : List ℤ) (place : ℕ) (meaning : Meaning) → place < 64 → IsSayable meaning → place < place_behind place meaning
moved values place (EndRun blocks) h says = h
moved values place (ZeroRun _) h says = omega (arith, says.0)
moved values place (Value _ value) h says = omega arith

-- and no place is past the end
pub within : (values : List ℤ) (place : ℕ) (meaning : Meaning) → IsTrueOf values place meaning → place_behind place meaning ≤ 64
within values place (EndRun blocks) right = omega arith
within values place (ZeroRun _) right = right.0
within values place (Value _ value) right = omega (arith, right.0)

-- the places of blocks, where one block moved
pub low_set : (place b stands : ℕ) (work : List ℕ) → ((i : ℕ) → i < length work → place ≤ get_or work i 0) → b < length work → place < stands
    → (i : ℕ) → i < length (set work b stands) → place ≤ get_or (set work b stands) i 0
low_set place b stands work low h far i below = elim (cases_eq i b) [
  | inl same ↦ let is : get_or (set work b stands) b 0 ≡ stands = get_or-set_same work b stands 0 h in rw (same, is) (omega arith)
  | inr elsewhere ↦ rw (get_or-set_other work b i stands 0 elsewhere) (low i (omega (arith, length-set work b stands)))
]

pub behind_set : (place b stands : ℕ) (work : List ℕ) → ((i : ℕ) → i < b → place < get_or work i 0) → b < length work → place < stands
    → (i : ℕ) → i < b + 1 → place < get_or (set work b stands) i 0
behind_set place b stands work behind h far i below = elim (cases_eq i b) [
  | inl same ↦ let is : get_or (set work b stands) b 0 ≡ stands = get_or-set_same work b stands 0 h in rw (same, is) far
  | inr elsewhere ↦ rw (get_or-set_other work b i stands 0 elsewhere) (behind i (omega arith))
]

-- or stayed at a later place
pub behind_pass : (place b : ℕ) (work : List ℕ) → ((i : ℕ) → i < b → place < get_or work i 0) → place ≤ get_or work b 0 → get_or work b 0 ≢ place
    → (i : ℕ) → i < b + 1 → place < get_or work i 0
behind_pass place b work behind low ne i below = elim (cases_eq i b) [
  | inl same ↦ rw same (elim (cases_lt place (get_or work b 0)) [
    | inl far ↦ far
    | inr near ↦ absurd (ne (omega arith))
  ])
  | inr elsewhere ↦ behind i (omega arith)
]

-- an entry of a list does not depend on what stands for no entry
pub any_default : (xs : List ℕ) (i d e : ℕ) → i < length xs → get_or xs i d ≡ get_or xs i e
any_default [] i d e h = absurd (omega arith)
any_default (x ∷ xs) zero d e h = refl
any_default (x ∷ xs) (suc i) d e h = any_default xs i d e (omega arith)
