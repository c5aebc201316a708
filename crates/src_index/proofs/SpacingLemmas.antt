-- Key frames stay spaced with one more, and what is kept stays as many as are counted. Judging packet after packet cites these.
use Rattle.std.proofs.Common.{◌≡◌, ℕ, ◌+◌, ◌-◌, ◌^◌, ◌<◌, ◌≤◌, ◌&&◌, Bool, true, false, List, [], ◌∷◌, ◌++◌, length, length-append, map, Option, Some, None, Ok, nat_lt, if◌then◌else◌, inl, inr, refl, ap, sym, subst, ◌∙◌, arith, true≢false, lt-ltb}
use Rattle.std.proofs.lemmas.Bool.{cases_lt, le-ltb, ltb-true}
use Rattle.std.proofs.lemmas.List.{map-append, nil_from_length, length-map}
use Rattle.std.proofs.lemmas.Nat.{pow_pos}
use Rattle.ogg_link.specs.Track.{is_key}
use Rattle.ogg_link.specs.Progress.{counted, key_after, one_more}
use Rattle.thr_ident.specs.Header.{Header}
use Rattle.thr_setup.specs.Setup.{Contents}
use Rattle.src_index.specs.Said.{Said, Start, WithIdent, WithComment, WithSetup, shift_of, said_count}
use Rattle.ogg_link.specs.Spacing.{behind, gap, Close, BeginsWithKey}
use Rattle.src_index.specs.Checks.{packet_step, frame_step, is_near, most_packets}
use Rattle.src_index.specs.Index.{Frame}
use Rattle.src_index.specs.Kept.{Kept, with_end, with_header, with_frame, frame_from}
use Rattle.src_index.specs.Holding.{IsSpaced, IsTallied}
use Rattle.src_index.proofs.CheckLemmas.{frame_leaves, frame_near, step_passed}

-- a frame more
close_more : (shift distance : ℕ) (keys : List Bool) (key : Bool) → Close shift distance keys → behind (gap distance keys) key < 2 ^ shift → Close shift distance (keys ++ key ∷ [])
unfolding Close gap
close_more shift distance [] key h near = (near, tt)
close_more shift distance (k ∷ keys) key h near = (h.0, close_more shift (behind distance k + 1) keys key h.1 near)

gap_more : (distance : ℕ) (keys : List Bool) (key : Bool) → gap distance (keys ++ key ∷ []) ≡ behind (gap distance keys) key + 1
unfolding gap
gap_more distance [] key = refl
gap_more distance (k ∷ keys) key = gap_more (behind distance k + 1) keys key

first_more : (keys : List Bool) (key : Bool) → BeginsWithKey keys → (length keys ≡ 0 → key ≡ true) → BeginsWithKey (keys ++ key ∷ [])
unfolding BeginsWithKey
first_more [] key h first = first refl
first_more (k ∷ keys) key h first = h

-- the first frame has no key frame before it
key_first : (shift count : ℕ) (last : Option ℕ) (key : Bool) → last ≡ None → is_near shift count (if key then Some count else last) ≡ true → key ≡ true
key_first shift count last true none near = refl
key_first shift count last false none near = absurd (true≢false (sym near ∙ ap (is_near shift count) none))

pub spaced_more : (shift count : ℕ) (last : Option ℕ) (keys : List Bool) (key : Bool) → IsSpaced shift count last keys → length keys ≡ count → is_near shift count (if key then Some count else last) ≡ true
    → IsSpaced shift (count + 1) (if key then Some count else last) (keys ++ key ∷ [])
spaced_more shift count last keys true h many near = record {
  spaced = record { first = first_more keys true h.spaced.first (λ _. refl); close = close_more shift 0 keys true h.spaced.close (pow_pos shift) };
  none = λ zero. absurd (omega (arith, zero));
  before = omega arith;
  behind = omega (arith, gap_more 0 keys true);
}
spaced_more shift count None keys false h many near = absurd (true≢false (sym near))
spaced_more shift count (Some k) keys false h many near = record {
  spaced = record { first = first_more keys false h.spaced.first (λ e. key_first shift count (Some k) false (h.none (omega (arith, e, many))) near); close = close_more shift 0 keys false h.spaced.close (omega (arith, h.behind, ltb-true (count - k) (2 ^ shift) near)) };
  none = λ zero. absurd (omega (arith, zero));
  before = omega (arith, h.before);
  behind = omega (arith, gap_more 0 keys false, h.behind, h.before);
}

-- no frame is there before three headers
no_frames : (count shift : ℕ) (last : Option ℕ) (kept : Kept) → IsTallied count last shift kept → length kept.headers < 3 → kept.frames ≡ []
no_frames count shift last kept t few = nil_from_length kept.frames (elim (cases_lt 0 (length kept.frames)) [
  | inl some ↦ absurd (omega (arith, few, t.headers_first some))
  | inr none ↦ omega (arith, none)
])

and_false : (a b : Bool) → b ≡ false → a && b ≡ false
and_false true b h = h
and_false false b h = refl

-- a header more
tallied_header : (number shift next : ℕ) (last : Option ℕ) (kept : Kept) → IsTallied number last shift kept → length kept.headers < 3
    → IsTallied (one_more number) (key_after (is_key kept.begun) number last) next (with_end kept)
unfolding Close gap BeginsWithKey
tallied_header number shift next last kept t few =
    let frames : kept.frames ≡ [] = no_frames number shift last kept t few in
    let none : length kept.frames ≡ 0 = ap length frames in
    let low : number < 3 = omega (arith, t.all, none, few) in
    let same : key_after (is_key kept.begun) number last ≡ last = ap (λ b. if b then Some (number - 3) else last) (and_false (is_key kept.begun) (nat_lt 2 number) (le-ltb 2 number (omega (arith, low)))) in
    let ended : with_end kept ≡ with_header kept = ap (λ b. if b then with_header kept else with_frame kept) (lt-ltb (length kept.headers) 3 few) in
    let empty : IsSpaced next 0 last [] = record { spaced = record { first = tt; close = tt }; none = λ _. t.spaced.none none; before = omega (arith, t.spaced.before, none); behind = omega arith } in
    subst (λ k. IsTallied (one_more number) k next (with_end kept)) (sym same) (subst (IsTallied (one_more number) last next) (sym ended) (record {
      all = omega (arith, t.all, low, length-append kept.headers (kept.begun ∷ []));
      headers_first = λ some. absurd (omega (arith, some, none));
      spaced = subst (λ (fs : List Frame). IsSpaced next (length fs) last (map (λ (f : Frame). f.key) fs)) (sym frames) empty;
    }))

-- a frame more
tallied_frame : (number : ℕ) (last : Option ℕ) (kept : Kept) (header : Header) (contents : Contents) → IsTallied number last header.shift kept → length kept.headers ≡ 3 → number < most_packets
    → frame_step header contents (counted number last kept.begun) kept.begun ≡ Ok (WithSetup header contents)
    → IsTallied (one_more number) (key_after (is_key kept.begun) number last) header.shift (with_end kept)
tallied_frame number last kept header contents t three few h =
    let shift = header.shift in
    let key = is_key kept.begun in
    let keys = map (λ (f : Frame). f.key) kept.frames in
    let ended : with_end kept ≡ with_frame kept = ap (λ b. if b then with_header kept else with_frame kept) (le-ltb (length kept.headers) 3 (omega (arith, three))) in
    let count : number - 3 ≡ length kept.frames = omega (arith, t.all, three) in
    let there : nat_lt 2 number ≡ true = lt-ltb 2 number (omega (arith, t.all, three)) in
    let last_is : key_after key number last ≡ (if key then Some (length kept.frames) else last) = after key number (length kept.frames) last there count in
    let many : length keys ≡ length kept.frames = length-map kept.frames (λ (f : Frame). f.key) in
    let near : is_near shift (length kept.frames) (if key then Some (length kept.frames) else last) ≡ true = sym (λ i. is_near shift (count i) (last_is i)) ∙ frame_near header contents number last kept.begun h in
    let more = spaced_more shift (length kept.frames) last keys key t.spaced many near in
    let longer : length (kept.frames ++ frame_from kept ∷ []) ≡ length kept.frames + 1 = length-append kept.frames (frame_from kept ∷ []) in
    let marks : keys ++ key ∷ [] ≡ map (λ (f : Frame). f.key) (kept.frames ++ frame_from kept ∷ []) = sym (map-append (λ (f : Frame). f.key) kept.frames (frame_from kept ∷ [])) in
    subst (IsTallied (one_more number) (key_after key number last) shift) (sym ended) (record {
      all = omega (arith, t.all, few, longer);
      headers_first = λ _. three;
      spaced = subst (λ k. IsSpaced shift (length (kept.frames ++ frame_from kept ∷ [])) k (map (λ (f : Frame). f.key) (kept.frames ++ frame_from kept ∷ []))) (sym last_is)
          (subst (λ ks. IsSpaced shift (length (kept.frames ++ frame_from kept ∷ [])) (if key then Some (length kept.frames) else last) ks) marks
          (subst (λ n. IsSpaced shift n (if key then Some (length kept.frames) else last) (keys ++ key ∷ [])) (sym longer) more));
    })
  where
    after : (key : Bool) (number frames : ℕ) (last : Option ℕ) → nat_lt 2 number ≡ true → number - 3 ≡ frames → (if key && nat_lt 2 number then Some (number - 3) else last) ≡ (if key then Some frames else last)
    after true number frames last there count = ap (λ b. if b then Some (number - 3) else last) there ∙ ap (λ n. Some n) count
    after false number frames last there count = refl

-- a packet more
pub tallied_more : (said next : Said) (number : ℕ) (last : Option ℕ) (kept : Kept) → length kept.headers ≡ said_count said → packet_step said (counted number last kept.begun) kept.begun ≡ Ok next
    → IsTallied number last (shift_of said) kept → IsTallied (one_more number) (key_after (is_key kept.begun) number last) (shift_of next) (with_end kept)
tallied_more Start next number last kept count h t = tallied_header number (shift_of Start) (shift_of next) last kept t (omega (arith, count))
tallied_more (WithIdent header) next number last kept count h t = tallied_header number (shift_of (WithIdent header)) (shift_of next) last kept t (omega (arith, count))
tallied_more (WithComment header) next number last kept count h t = tallied_header number (shift_of (WithComment header)) (shift_of next) last kept t (omega (arith, count))
tallied_more (WithSetup header contents) next number last kept count h t =
    let step = step_passed (WithSetup header contents) next (counted number last kept.begun) kept.begun h in
    let same : next ≡ WithSetup header contents = setup_stays header contents next number last kept.begun step.1 in
    subst (λ s. IsTallied (one_more number) (key_after (is_key kept.begun) number last) (shift_of s) (with_end kept)) (sym same)
    (tallied_frame number last kept header contents t count step.0 (step.1 ∙ ap (λ s. Ok s) same))
  where
    setup_stays : (header : Header) (contents : Contents) (next : Said) (number : ℕ) (last : Option ℕ) (packet : List ℕ) → frame_step header contents (counted number last packet) packet ≡ Ok next → next ≡ WithSetup header contents
    setup_stays header contents next number last packet h = frame_leaves header contents next number last packet h

-- no frames are spaced
pub nothing_spaced : (shift : ℕ) → IsSpaced shift 0 None []
unfolding Close gap BeginsWithKey
nothing_spaced shift = record { spaced = record { first = tt; close = tt }; none = λ _. refl; before = omega arith; behind = omega arith }

-- before the first packet nothing is kept
pub nothing_tallied : (shift : ℕ) (kept : Kept) → kept.headers ≡ [] → kept.frames ≡ [] → IsTallied 0 None shift kept
nothing_tallied shift kept headers frames =
    let none : length kept.frames ≡ 0 = ap length frames in
    record {
      all = omega (arith, none, ap length headers);
      headers_first = λ some. absurd (omega (arith, some, none));
      spaced = subst (λ (fs : List Frame). IsSpaced shift (length fs) None (map (λ (f : Frame). f.key) fs)) (sym frames) (nothing_spaced shift);
    }

-- where three packets have ended, all headers have
pub three_kept : (count shift : ℕ) (last : Option ℕ) (kept : Kept) → IsTallied count last shift kept → 3 ≤ count → 3 ≤ length kept.headers
three_kept count shift last kept t many = elim (cases_lt 0 (length kept.frames)) [
  | inl some ↦ omega (arith, t.headers_first some)
  | inr none ↦ omega (arith, none, many, t.all)
]

-- what is counted is below 2^32
pub few_tallied : (count shift : ℕ) (last : Option ℕ) (kept : Kept) → IsTallied count last shift kept → length kept.headers ≤ 3 → length kept.frames ≤ 2 ^ 24 → count < 2 ^ 32
few_tallied count shift last kept t headers frames = omega (arith, t.all, headers, frames)
