-- The segments of a stream end packets with the right granule positions, and close the page on which the setup header ends. Walks over written pages cite these.
use Rattle.std.proofs.Common.{◌≡◌, ℕ, zero, suc, ◌+◌, ◌-◌, ◌*◌, ◌/◌, ◌^◌, ◌<◌, ◌≤◌, Bool, true, false, not, ◌&&◌, List, [], ◌∷◌, ◌++◌, length, length-drop, length-take, take, drop, map, nat_lt, Some, None, Option, is_none, is_some, if◌then◌else◌, refl, ap, sym, subst, arith, lt-ltb, le-ltb, true≢false}
use Rattle.ogg_link.specs.declared.state.Progress.{Progress}
use Rattle.ogg_link.specs.Track.{headers, is_key, granule_of}
use Rattle.ogg_link.specs.Progress.{one_more, key_after, after_piece}
use Rattle.ogg_mux.specs.OutputPages.{Segment, cut_at_255, packet_segments, frame_segments}
use Rattle.ogg_link.specs.Spacing.{Close, behind}
use Rattle.ogg_mux.proofs.OutputLemmas.{piece_of}

-- the position of the last frame that ended, which is near its key frame
pub record IsRight (base shift : ℕ) (known : Progress) (granule : ℕ) : Type 0 where
  pub key : ℕ
  pub last : known.last_key ≡ Some key
  pub value : granule ≡ granule_of base shift key (known.packets - 4)
  pub near : known.packets - 4 - key < 2 ^ shift

-- where a frame ends with a segment, the segment has its position
abbrev pub GivesRight : ℕ → ℕ → Progress → Option ℕ → Type 0
GivesRight base shift known None = Unit {0}
GivesRight base shift known (Some granule) = 3 < known.packets → IsRight base shift known granule

-- a segment behind which a packet goes on has 255 bytes and no position, and the end of the setup header closes its page
pub record IsProper (known : Progress) (s : Segment) : Type 0 where
  pub goes_on : is_none s.granule ≡ not (nat_lt (length s.bytes) 255)
  pub closes : known.packets ≡ 2 → is_some s.granule ≡ true → s.least ≡ Some 0

-- segments behind what is known, to the end of a file
unfoldable pub AllRight : ℕ → ℕ → Progress → List Segment → Type 0
AllRight base shift known [] = (known.unfinished ≡ false) × (3 ≤ known.packets)
AllRight base shift known (s ∷ ss) = IsProper known s × GivesRight base shift (after_piece known (piece_of s)) s.granule × AllRight base shift (after_piece known (piece_of s)) ss

-- behind the end of a packet that began as a key frame or not
pub ended_with : Progress → Bool → Progress
ended_with known key = record { packets = one_more known.packets; unfinished = false; key = false; last_key = key_after key known.packets known.last_key }

key_of : Progress → List ℕ → Bool
key_of known bytes = if known.unfinished then known.key else is_key bytes

key_taken : (bytes : List ℕ) → is_key (take 255 bytes) ≡ is_key bytes
key_taken [] = refl
key_taken (b ∷ bs) = refl

-- the segments of one packet
AllRight-cut : (base shift n : ℕ) (bytes : List ℕ) (g : ℕ) (l : Option ℕ) (known : Progress) (more : List Segment) → 255 * n ≤ length bytes → length bytes < 255 * n + 255
    → (known.packets ≡ 2 → l ≡ Some 0) → (3 < one_more known.packets → IsRight base shift (ended_with known (key_of known bytes)) g)
    → AllRight base shift (ended_with known (key_of known bytes)) more → AllRight base shift known (cut_at_255 n bytes g l ++ more)
unfolding cut_at_255 AllRight ended_with key_of
AllRight-cut base shift zero bytes g l known more h k closes right rest =
    let short : nat_lt (length bytes) 255 ≡ true = lt-ltb (length bytes) 255 (omega arith) in
    rw short (record { goes_on = rw short refl; closes = λ two _. closes two }, right, rest)
AllRight-cut base shift (suc n) bytes g l known more h k closes right rest =
    let full : nat_lt (length (take 255 bytes)) 255 ≡ false = le-ltb (length (take 255 bytes)) 255 (omega (arith, length-take 255 bytes)) in
    let next : Progress = record { packets = known.packets; unfinished = true; key = if known.unfinished then known.key else is_key bytes; last_key = known.last_key } in
    rw (full, key_taken bytes) (
      record { goes_on = rw full refl; closes = λ _ some. absurd (true≢false (sym some)) },
      tt,
      AllRight-cut base shift n (drop 255 bytes) g l next more (omega (arith, length-drop 255 bytes)) (omega (arith, length-drop 255 bytes)) closes right rest,
    )

-- what is known before a header, and before frame f
unfoldable pub before : ℕ → Option ℕ → Progress
before packets last = record { packets = packets; unfinished = false; key = false; last_key = last }

header_ends : (n : ℕ) (key : Bool) → n ≤ 2 → ended_with (before n None) key ≡ before (n + 1) None
unfolding ended_with before
header_ends n key h =
    let few : nat_lt 2 n ≡ false = le-ltb 2 n h in
    let count : one_more n ≡ n + 1 = omega arith in
    rw (few, count) (elim key as (λ b. ◌≡◌ {A = Progress} (record { packets = n + 1; unfinished = false; key = false; last_key = if b && false then Some (n - headers) else None }) (record { packets = n + 1; unfinished = false; key = false; last_key = None })) [ true ↦ refl | false ↦ refl ])

-- one header
pub AllRight-header : (base shift n : ℕ) (bytes : List ℕ) (l : Option ℕ) (more : List Segment) → n ≤ 2 → (n ≡ 2 → l ≡ Some 0) → AllRight base shift (before (n + 1) None) more
    → AllRight base shift (before n None) (packet_segments bytes 0 l ++ more)
unfolding before key_of
AllRight-header base shift n bytes l more h closes rest =
    AllRight-cut base shift (length bytes / 255) bytes 0 l (before n None) more (omega arith) (omega arith) closes (λ over. absurd (omega (arith, over)))
    (subst (λ known. AllRight base shift known more) (sym (header_ends n (is_key bytes) h)) rest)

-- the last key frame is k, where the next frame is none
abbrev pub KeyIs : Option ℕ → ℕ → List (List ℕ) → Type 0
KeyIs last k [] = Unit {0}
KeyIs last k (p ∷ ps) = is_key p ≡ false → last ≡ Some k

frame_ends : (f k : ℕ) (last : Option ℕ) (p : List ℕ) (ps : List (List ℕ)) → f < 2 ^ 24 → KeyIs last k (p ∷ ps) → ended_with (before (f + 3) last) (is_key p) ≡ before (f + 1 + 3) (Some (if is_key p then f else k))
unfolding ended_with before
frame_ends f k last p ps h at =
    let some : nat_lt 2 (f + 3) ≡ true = lt-ltb 2 (f + 3) (omega arith) in
    let count : one_more (f + 3) ≡ f + 1 + 3 = omega arith in
    let frame : f + 3 - headers ≡ f = omega arith in
    rw (some, count, frame) (elim (is_key p) as (λ b. (b ≡ false → last ≡ Some k) → ◌≡◌ {A = Progress} (record { packets = f + 1 + 3; unfinished = false; key = false; last_key = if b && true then Some f else last })
    (record { packets = f + 1 + 3; unfinished = false; key = false; last_key = Some (if b then f else k) })) [
      | true ↦ λ _. refl
      | false ↦ λ is. (λ i. record { packets = f + 1 + 3; unfinished = false; key = false; last_key = is refl i })
    ] at)

key_small : (p : List ℕ) (f k : ℕ) → k ≤ f → (if is_key p then f else k) ≤ f
key_small p f k h = elim (is_key p) as (λ b. (if b then f else k) ≤ f) [ true ↦ omega arith | false ↦ h ]

-- the distance to the key frame
gap_of : (p : List ℕ) (f k gap : ℕ) → k ≤ f → gap ≡ f - k → f - (if is_key p then f else k) ≡ behind gap (is_key p)
gap_of p f k gap h is = elim (is_key p) as (λ b. f - (if b then f else k) ≡ (if b then 0 else gap)) [ true ↦ omega arith | false ↦ sym is ]

next_key : (k : ℕ) (ps : List (List ℕ)) → KeyIs (Some k) k ps
next_key k [] = tt
next_key k (p ∷ ps) = λ _. refl

-- frames from frame f on
pub AllRight-frames : (least base shift f k gap : ℕ) (last : Option ℕ) (ps : List (List ℕ)) → k ≤ f → f + length ps ≤ 2 ^ 24 → gap ≡ f - k → KeyIs last k ps → Close shift gap (map is_key ps)
    → AllRight base shift (before (f + 3) last) (frame_segments least base shift f k ps)
unfolding frame_segments Close AllRight before key_of
AllRight-frames least base shift f k gap last [] hk hf is at near = (refl, omega arith)
AllRight-frames least base shift f k gap last (p ∷ ps) hk hf is at near =
    let key : ℕ = if is_key p then f else k in
    let small : key ≤ f = key_small p f k hk in
    let ends : ended_with (before (f + 3) last) (is_key p) ≡ before (f + 1 + 3) (Some key) = frame_ends f k last p ps (omega arith) at in
    let apart : f - key ≡ behind gap (is_key p) = gap_of p f k gap hk is in
    let frame : f + 1 + 3 - 4 ≡ f = omega arith in
    AllRight-cut base shift (length p / 255) p (granule_of base shift key f) (Some least) (before (f + 3) last) (frame_segments least base shift (f + 1) key ps) (omega arith) (omega arith)
    (λ two. absurd (omega (arith, two)))
    (λ _. subst (λ known. IsRight base shift known (granule_of base shift key f)) (sym ends) (record { key = key; last = refl; value = ap (granule_of base shift key) (sym frame); near = rw (frame, apart) near.0 }))
    (subst (λ known. AllRight base shift known (frame_segments least base shift (f + 1) key ps)) (sym ends)
    (AllRight-frames least base shift (f + 1) key (behind gap (is_key p) + 1) (Some key) ps (omega (arith, small)) (omega arith) (omega (arith, apart, small)) (next_key key ps) near.1))
