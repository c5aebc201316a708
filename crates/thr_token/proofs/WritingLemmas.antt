-- What is written of tokens, and that it is read as their list is read. The writers cite these.
use Rattle.std.proofs.Common.{◌≡◌, ◌∙◌, ℕ, ◌<◌, ◌≤◌, Bool, true, false, cond, not, List, [], ◌∷◌, ◌++◌, Option, Some, None, Result, Ok, Err, refl, ap, sym, subst, suc, ◌+◌, length, length-append, append_assoc, arith, All}
use Rattle.std.specs.Prelude.{filter, flat_map, IsSome, ℤ}
use Rattle.std.proofs.lemmas.Bool.{ne_eqb, not-true}
use Rattle.std.proofs.lemmas.List.{append-nil}
use Rattle.std.proofs.lemmas.List.Elements.{All-head, All-tail, filter-append}
use Rattle.std.proofs.lemmas.List.Sums.{length-filter}
use Rattle.std.proofs.lemmas.Grind.{flat_map-append}
use Rattle.std.proofs.Math.Dec.{eqb}
use Rattle.vid_base.specs.declared.shape.Shape.{Shape}
use Rattle.vid_base.specs.declared.fault.PacketFault.{PacketFault}
use Rattle.vid_base.specs.declared.fault.PacketFault.TheVariants.{Ended}
use Rattle.vid_base.specs.Bits.{digits}
use Rattle.vid_base.specs.Reading.{◌>>=◌}
use Rattle.vid_base.proofs.DigitLemmas.{length-digits}
use Rattle.vid_base.proofs.NumberLemmas.{take-digits}
use Rattle.vid_geom.specs.CodedOrder.{order_of}
use Rattle.thr_huff.specs.CodeTree.{CodeTree, Token as Leaf}
use Rattle.thr_huff.proofs.ForestLemmas.{front_token-code_of}
use Rattle.std.specs.Prelude.{slice_index_or}
use Rattle.thr_token.specs.declared.token.Token.{Token}
use Rattle.thr_token.specs.declared.token.Tables.{Tables}
use Rattle.thr_token.specs.Tokens.{Meaning, further_bits, meaning_of}
use Rattle.thr_token.specs.Coefficients.{TableNumbers, Progress, Source, at_place, coefficients, numbers_in, places, results_of, token_in, tree_of, untouched_blocks}
use Rattle.thr_token.specs.Tokenised.{IsToken, Tells, is_for, token_from, told}
use Rattle.thr_token.specs.WrittenTokens.{Part, Dc, Ac, IsHeld, code_for, codes_in, in_part, numbers_at, numbers_code, numbers_of, part_code, token_code, tokens_code, tokens_in}
use Rattle.thr_token.proofs.SourceLemmas.{Follows, at_place_follows, ok_same, places_follow, went_well}

-- so many digits were added
pub longer_by : (old new : List Bool) (n value : ℕ) → new ≡ old ++ digits n value → length new ≡ length old + n
longer_by old new n value e = ap length e ∙ length-append old (digits n value) ∙ ap (λ k. length old + k) (length-digits n value)

-- each token belongs to one of the parts
pub parts_are_all : (tokens : List Token) → tokens_in Dc tokens + tokens_in Ac tokens ≡ length tokens
parts_are_all tokens =
    let dcs : Token → Bool = λ token. in_part Dc token.place in
    let acs : Token → Bool = λ token. in_part Ac token.place in
    rw (← length-filter dcs tokens, ← length-filter acs tokens) (both tokens)
  where
    both : (tokens : List Token) → length (filter (λ token. in_part Dc token.place) tokens) + length (filter (λ token. in_part Ac token.place) tokens) ≡ length tokens
    both [] = refl
    both (t ∷ tokens) = go (eqb t.place 0) (both tokens)
      where
        go : (first : Bool) → length (filter (λ token. in_part Dc token.place) tokens) + length (filter (λ token. in_part Ac token.place) tokens) ≡ length tokens
            → length (cond first (t ∷ filter (λ token. in_part Dc token.place) tokens) (filter (λ token. in_part Dc token.place) tokens)) + length (cond (not first) (t ∷ filter (λ token. in_part Ac token.place) tokens) (filter (λ token. in_part Ac token.place) tokens)) ≡ suc (length tokens)
        go true h = omega arith
        go false h = omega arith

-- the part that is not this one
abbrev pub other : Part → Part
other Dc = Ac
other Ac = Dc

not_other : (part : Part) (place : ℕ) → in_part part place ≡ true → in_part (other part) place ≡ false
not_other Dc place h = ap not h
not_other Ac place h = not-true (eqb place 0) h

-- the tables of a place are those of its part
pub numbers_here : (tables : Tables) (part : Part) (place : ℕ) → in_part part place ≡ true → numbers_at tables place ≡ numbers_of tables part
numbers_here tables Dc place h = rw h refl
numbers_here tables Ac place h = rw (not-true (eqb place 0) h) refl

-- a token of the part is written in front of the others
codes_front : (forest : List CodeTree) (tables : Tables) (part : Part) (t : Token) (tokens : List Token) → in_part part t.place ≡ true
    → codes_in forest tables part (t ∷ tokens) ≡ token_code forest (numbers_of tables part) t ++ codes_in forest tables part tokens
unfolding codes_in
codes_front forest tables part t tokens h = rw h refl

-- one token more, of the part
pub codes_more : (forest : List CodeTree) (tables : Tables) (part : Part) (tokens : List Token) (t : Token) → in_part part t.place ≡ true
    → codes_in forest tables part (tokens ++ t ∷ []) ≡ codes_in forest tables part tokens ++ token_code forest (numbers_of tables part) t
unfolding codes_in
codes_more forest tables part tokens t h =
    let code : Token → List Bool = token_code forest (numbers_of tables part) in
    ap (flat_map code) (filter-append (λ token. in_part part token.place) tokens (t ∷ []))
    ∙ flat_map-append code (filter (λ token. in_part part token.place) tokens) (filter (λ token. in_part part token.place) (t ∷ []))
    ∙ rw h (ap (λ bits. flat_map code (filter (λ token. in_part part token.place) tokens) ++ bits) (append-nil (code t)))

-- or of the other part
pub codes_same : (forest : List CodeTree) (tables : Tables) (part : Part) (tokens : List Token) (t : Token) → in_part part t.place ≡ false
    → codes_in forest tables part (tokens ++ t ∷ []) ≡ codes_in forest tables part tokens
unfolding codes_in
codes_same forest tables part tokens t h =
    let code : Token → List Bool = token_code forest (numbers_of tables part) in
    ap (flat_map code) (filter-append (λ token. in_part part token.place) tokens (t ∷ []))
    ∙ rw h (ap (flat_map code) (append-nil (filter (λ token. in_part part token.place) tokens)))

-- nothing is written of no tokens
pub codes_none : (forest : List CodeTree) (tables : Tables) (part : Part) → codes_in forest tables part [] ≡ []
unfolding codes_in
codes_none forest tables part = refl

-- a token's code and its further bits are read as the token
one_back : (forest : List CodeTree) (numbers : TableNumbers) (t : Token) (rest : List Bool) → IsToken t → IsSome (code_for forest numbers t)
    → token_in forest numbers t.place t.luma (token_code forest numbers t ++ rest) ≡ Ok (meaning_of t.token t.extra, rest)
unfolding token_in token_code
one_back forest numbers t rest is held = go (code_for forest numbers t) refl held
  where
    go : (found : Option (List Bool)) → code_for forest numbers t ≡ found → IsSome found → token_in forest numbers t.place t.luma (token_code forest numbers t ++ rest) ≡ Ok (meaning_of t.token t.extra, rest)
    go None e h = cc
    go (Some code) e h =
        let front = front_token-code_of (slice_index_or forest (tree_of numbers t.place t.luma) (Leaf 0)) t.token code (digits (further_bits t.token) t.extra ++ rest) e in
        let behind = take-digits (further_bits t.token) t.extra rest is.further in
        rw (e, append_assoc code (digits (further_bits t.token) t.extra) rest, front, behind) refl

-- a token that is one for a block has its place and its plane
for_block : (place : ℕ) (luma : Bool) (t : Token) → is_for place luma t ≡ true → (t.place ≡ place) × (t.luma ≡ luma)
for_block place luma t h = grind arith

-- bits that are what was written of the tokens of a part, and a tail; the tokens of the other part are these
pub record Behind (forest : List CodeTree) (tables : Tables) (part : Part) (others : List Token) (tail : List Bool) (tokens : List Token) (bits : List Bool) : Type 0 where
  pub others_are : filter (λ token. in_part (other part) token.place) tokens ≡ others
  pub bits_are : bits ≡ codes_in forest tables part tokens ++ tail
  pub each : All IsToken tokens
  pub held : All (IsHeld forest tables) tokens

-- at the places of the part, the bits are read as the list is
token_follows : (forest : List CodeTree) (tables : Tables) (part : Part) (others : List Token) (tail : List Bool) (place : ℕ) → in_part part place ≡ true
    → Follows token_from (token_in forest (numbers_of tables part)) (Behind forest tables part others tail) place
unfolding token_from
token_follows forest tables part others tail place here luma [] left bits m r e = cc
token_follows forest tables part others tail place here luma (t ∷ tokens) left bits m r e = go (is_for place luma t) refl e
  where
    go : (b : Bool) → is_for place luma t ≡ b → cond {A = Result (Meaning × List Token) PacketFault} b (Ok (meaning_of t.token t.extra, tokens)) (Err Ended) ≡ Ok (m, left)
        → (rest : List Bool) × (token_in forest (numbers_of tables part) place luma bits ≡ Ok (m, rest)) × Behind forest tables part others tail left rest
    go false h f = cc
    go true h f =
        let both = ok_same _ _ f in
        let block = for_block place luma t h in
        let same : in_part part t.place ≡ true = ap (in_part part) block.0 ∙ here in
        let rest : List Bool = codes_in forest tables part tokens ++ tail in
        let split : bits ≡ token_code forest (numbers_of tables part) t ++ rest =
        r.bits_are ∙ ap (λ z. z ++ tail) (codes_front forest tables part t tokens same)
        ∙ append_assoc (token_code forest (numbers_of tables part) t) (codes_in forest tables part tokens) tail in
        let held : IsSome (code_for forest (numbers_of tables part) t) =
        subst (λ n. IsSome (code_for forest n t)) (numbers_here tables part t.place same) (All-head (IsHeld forest tables) t tokens r.held) in
        let back = one_back forest (numbers_of tables part) t rest (All-head IsToken t tokens r.each) held in
        let read : token_in forest (numbers_of tables part) place luma bits ≡ Ok (meaning_of t.token t.extra, rest) =
        ap (token_in forest (numbers_of tables part) place luma) split
        ∙ subst (λ l. token_in forest (numbers_of tables part) place l (token_code forest (numbers_of tables part) t ++ rest) ≡ Ok (meaning_of t.token t.extra, rest)) block.1
        (subst (λ p. token_in forest (numbers_of tables part) p t.luma (token_code forest (numbers_of tables part) t ++ rest) ≡ Ok (meaning_of t.token t.extra, rest)) block.0 back) in
        let elsewhere : filter (λ token. in_part (other part) token.place) (t ∷ tokens) ≡ filter (λ token. in_part (other part) token.place) tokens =
        rw (not_other part t.place same) refl in (
          rest,
          read ∙ ap (λ z. Ok (z, rest)) (ap (λ z. z.0) both),
          subst (λ z. Behind forest tables part others tail z rest) (ap (λ z. z.1) both) (record {
            others_are = sym elsewhere ∙ r.others_are;
            bits_are = refl;
            each = All-tail IsToken t tokens r.each;
            held = All-tail (IsHeld forest tables) t tokens r.held;
          }),
        )

-- the numbers of two tables are read back
numbers_back : (numbers : TableNumbers) (rest : List Bool) → numbers.luma < 16 → numbers.chroma < 16 → numbers_in (numbers_code numbers ++ rest) ≡ Ok (numbers, rest)
unfolding numbers_in numbers_code
numbers_back numbers rest l c =
    let first = take-digits 4 numbers.luma (digits 4 numbers.chroma ++ rest) l in
    let second = take-digits 4 numbers.chroma rest c in
    rw (append_assoc (digits 4 numbers.luma) (digits 4 numbers.chroma) rest, first, second) refl

-- tokens of the DC part are none that a place from 1 on takes
dc_stays : (dcs : List Token) (place : ℕ) → 1 ≤ place → Follows token_from token_from (λ tokens same. (tokens ≡ same) × (filter (λ token. in_part Dc token.place) tokens ≡ dcs)) place
unfolding token_from
dc_stays dcs place h luma [] left same m r e = cc
dc_stays dcs place h luma (t ∷ tokens) left same m r e = go (is_for place luma t) refl e
  where
    go : (b : Bool) → is_for place luma t ≡ b → cond {A = Result (Meaning × List Token) PacketFault} b (Ok (meaning_of t.token t.extra, tokens)) (Err Ended) ≡ Ok (m, left)
        → (rest : List Token) × (token_from place luma same ≡ Ok (m, rest)) × ((left ≡ rest) × (filter (λ token. in_part Dc token.place) left ≡ dcs))
    go false i f = cc
    go true i f =
        let both = ok_same _ _ f in
        let block = for_block place luma t i in
        let later : eqb t.place 0 ≡ false = ne_eqb t.place 0 (λ z. absurd (omega (arith, block.0))) in
        let elsewhere : filter (λ token. in_part Dc token.place) (t ∷ tokens) ≡ filter (λ token. in_part Dc token.place) tokens = rw later refl in
        let read : token_from place luma (t ∷ tokens) ≡ Ok (m, left) = e in
        (left, subst (λ z. token_from place luma z ≡ Ok (m, left)) r.0 read, (refl, ap (filter (λ token. in_part Dc token.place)) (sym (ap (λ z. z.1) both)) ∙ sym elsewhere ∙ r.1))

-- what is written is the numbers and the tokens of one part, and then those of the other
written_parts : (forest : List CodeTree) (tables : Tables) (tokens : List Token) (rest : List Bool)
    → tokens_code forest tables tokens ++ rest
    ≡ numbers_code (numbers_of tables Dc) ++ (codes_in forest tables Dc tokens ++ (numbers_code (numbers_of tables Ac) ++ (codes_in forest tables Ac tokens ++ rest)))
unfolding tokens_code part_code
written_parts forest tables tokens rest = simp append_assoc

-- of tokens none of which is of the DC part
only_dc : (forest : List CodeTree) (tables : Tables) (tokens : List Token) → filter (λ token. in_part Dc token.place) tokens ≡ [] → codes_in forest tables Dc tokens ≡ []
unfolding codes_in
only_dc forest tables tokens none = ap (flat_map (token_code forest (numbers_of tables Dc))) none

is_later : (place : ℕ) → 1 ≤ place → in_part Ac place ≡ true
is_later place h = ap not (ne_eqb place 0 (λ z. absurd (omega arith)))

one_place : {S : Type 0} (next : Source S) (blocks : List Progress) (run : ℕ) (source : S) → places next 1 0 blocks run source ≡ at_place next 0 [] blocks run source
unfolding places
one_place {S} next blocks run source = go (at_place next 0 [] blocks run source)
  where
    go : (r : Result ((List Progress × ℕ) × S) PacketFault) → (r >>= (λ after. Ok ((after.0.0, after.0.1), after.1))) ≡ r
    go (Ok after) = refl
    go (Err fault) = refl

all_places : {S : Type 0} (next : Source S) (blocks : List Progress) (run : ℕ) (source : S)
    → places next 64 0 blocks run source ≡ (at_place next 0 [] blocks run source >>= (λ after. places next 63 1 after.0.0 after.0.1 after.1))
unfolding places
all_places next blocks run source = refl

-- the two parts are read one behind the other
parts_back : (forest : List CodeTree) (tables : Tables) (s : Shape) (flags : List Bool) (tokens : List Token) (rest : List Bool) (after all : List Progress × ℕ)
    → (tables.luma_dc < 16) × (tables.chroma_dc < 16) → (tables.luma_ac < 16) × (tables.chroma_ac < 16)
    → at_place (token_in forest (numbers_of tables Dc)) 0 [] (untouched_blocks (order_of s) flags) 0 (codes_in forest tables Dc tokens ++ (numbers_code (numbers_of tables Ac) ++ (codes_in forest tables Ac tokens ++ rest)))
    ≡ Ok (after, numbers_code (numbers_of tables Ac) ++ (codes_in forest tables Ac tokens ++ rest))
    → places (token_in forest (numbers_of tables Ac)) 63 1 after.0 after.1 (codes_in forest tables Ac tokens ++ rest) ≡ Ok (all, rest)
    → coefficients forest s flags (tokens_code forest tables tokens ++ rest) ≡ Ok (results_of all.0, rest)
unfolding coefficients
parts_back forest tables s flags tokens rest after all dc ac first later =
    let tail : List Bool = numbers_code (numbers_of tables Ac) ++ (codes_in forest tables Ac tokens ++ rest) in
    let dc_numbers = numbers_back (numbers_of tables Dc) (codes_in forest tables Dc tokens ++ tail) dc.0 dc.1 in
    let ac_numbers = numbers_back (numbers_of tables Ac) (codes_in forest tables Ac tokens ++ rest) ac.0 ac.1 in
    let one = one_place (token_in forest (numbers_of tables Dc)) (untouched_blocks (order_of s) flags) 0 (codes_in forest tables Dc tokens ++ tail) in
    rw (written_parts forest tables tokens rest, dc_numbers, one, first, ac_numbers, later) refl

-- the list is read in the same two parts
halves : (forest : List CodeTree) (tables : Tables) (s : Shape) (flags : List Bool) (tokens : List Token) (rest : List Bool) (after all : List Progress × ℕ) (later none : List Token)
    → (tables.luma_dc < 16) × (tables.chroma_dc < 16) → (tables.luma_ac < 16) × (tables.chroma_ac < 16) → All IsToken tokens → All (IsHeld forest tables) tokens
    → at_place token_from 0 [] (untouched_blocks (order_of s) flags) 0 tokens ≡ Ok (after, later)
    → places token_from 63 1 after.0 after.1 later ≡ Ok (all, none) → none ≡ []
    → coefficients forest s flags (tokens_code forest tables tokens ++ rest) ≡ Ok (results_of all.0, rest)
unfolding codes_in
halves forest tables s flags tokens rest after all later none dc ac each held read_first read_later is_none =
    let blocks : List Progress = untouched_blocks (order_of s) flags in
    let dcs : Token → Bool = λ token. in_part Dc token.place in
    let acs : Token → Bool = λ token. in_part Ac token.place in
    let tail : List Bool = numbers_code (numbers_of tables Ac) ++ (codes_in forest tables Ac tokens ++ rest) in
    let front = at_place_follows token_from (token_in forest (numbers_of tables Dc)) (Behind forest tables Dc (filter acs tokens) tail) 0 [] blocks 0 tokens later
    (codes_in forest tables Dc tokens ++ tail) after (token_follows forest tables Dc (filter acs tokens) tail 0 refl)
    (record { others_are = refl; bits_are = refl; each = each; held = held }) read_first in
    let stays = places_follow token_from token_from (λ left same. (left ≡ same) × (filter dcs left ≡ filter dcs later)) 1 63 1 after.0 after.1 later none later all
    (dc_stays (filter dcs later)) (omega arith) (refl, refl) read_later in
    let no_dc : filter dcs later ≡ [] = sym stays.2.1 ∙ ap (filter dcs) is_none in
    let behind : front.0 ≡ tail = front.2.bits_are ∙ ap (λ z. z ++ tail) (only_dc forest tables later no_dc) in
    let same : codes_in forest tables Ac later ≡ codes_in forest tables Ac tokens = ap (flat_map (token_code forest (numbers_of tables Ac))) front.2.others_are in
    let back = places_follow token_from (token_in forest (numbers_of tables Ac)) (Behind forest tables Ac (filter dcs later) rest) 1 63 1 after.0 after.1 later none
    (codes_in forest tables Ac later ++ rest) all (λ p h. token_follows forest tables Ac (filter dcs later) rest p (is_later p h)) (omega arith)
    (record { others_are = refl; bits_are = refl; each = front.2.each; held = front.2.held }) read_later in
    let end : back.0 ≡ rest = back.2.bits_are ∙ ap (λ z. codes_in forest tables Ac z ++ rest) is_none in
    parts_back forest tables s flags tokens rest after all dc ac
    (front.1 ∙ ap (λ z. Ok (after, z)) behind)
    (ap (λ z. places (token_in forest (numbers_of tables Ac)) 63 1 after.0 after.1 (z ++ rest)) (sym same) ∙ back.1 ∙ ap (λ z. Ok (all, z)) end)

-- what is written of tokens that tell coefficients is read as these
pub told_back : (forest : List CodeTree) (tables : Tables) (s : Shape) (flags : List Bool) (results : List (List ℤ) × List ℕ) (tokens : List Token) (rest : List Bool)
    → (tables.luma_dc < 16) × (tables.chroma_dc < 16) → (tables.luma_ac < 16) × (tables.chroma_ac < 16) → All IsToken tokens → All (IsHeld forest tables) tokens
    → Tells s flags results tokens → coefficients forest s flags (tokens_code forest tables tokens ++ rest) ≡ Ok (results, rest)
unfolding told
told_back forest tables s flags results tokens rest dc ac each held tells =
    let blocks : List Progress = untouched_blocks (order_of s) flags in
    let dcs : Token → Bool = λ token. in_part Dc token.place in
    let acs : Token → Bool = λ token. in_part Ac token.place in
    let tail : List Bool = numbers_code (numbers_of tables Ac) ++ (codes_in forest tables Ac tokens ++ rest) in
    let whole = went_well (places token_from 64 0 blocks 0 tokens) (λ all. Ok ((results_of all.0.0, all.0.1), all.1)) ((results, 0), []) tells in
    let ends = ok_same _ _ whole.2 in
    let first = went_well (at_place token_from 0 [] blocks 0 tokens) (λ after. places token_from 63 1 after.0.0 after.0.1 after.1) whole.0 (sym (all_places token_from blocks 0 tokens) ∙ whole.1) in
    halves forest tables s flags tokens rest first.0.0 whole.0.0 first.0.1 whole.0.1 dc ac each held first.1 first.2 (ap (λ z. z.1) ends) ∙ ap (λ z. Ok (z, rest)) (ap (λ z. z.0.0) ends)
