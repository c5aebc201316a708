-- The last key frame is the last of the track's packets that is one, and the last lacing value tells whether a packet is unfinished. Judges of a file, which have its packets, cite these.
use Rattle.std.proofs.Common.{◌≡◌, ℕ, ◌+◌, ◌<◌, Bool, true, false, not, nat_lt, Some, None, List, [], ◌∷◌, ◌++◌, length, length-append, length-take, length-drop, take, drop, sum, if◌then◌else◌, refl, ap, sym, ◌∙◌, arith, true≢false, lt-ltb, inl, inr}
use Rattle.std.proofs.lemmas.Bool.{cases_lt}
use Rattle.std.proofs.lemmas.List.Sums.{sum_by-cons}
use Rattle.std.specs.List.{last_or}
use Rattle.ogg_page.specs.Packets.{Piece, segments, packets_from, left_from}
use Rattle.ogg_link.specs.Track.{is_key}
use Rattle.ogg_link.specs.declared.state.Progress.{Progress}
use Rattle.ogg_link.specs.Progress.{one_more, key_after, after_piece, after_pieces, last_key_among, GoOn, Holds, unfinished_by, unfinished_behind}

-- the first byte of a packet shows whether it is a key frame
pub is_key-append : (front bytes : List ℕ) → 0 < length front → is_key (front ++ bytes) ≡ is_key front
is_key-append [] bytes h = absurd (omega arith)
is_key-append (b ∷ front) bytes h = refl

-- what is known of a packet with one piece more
pub key_of : (known : Progress) (front bytes : List ℕ) → Holds known front → (if known.unfinished then known.key else is_key bytes) ≡ is_key (front ++ bytes)
key_of known front bytes h =
    elim known.unfinished as (λ b. (b ≡ known.unfinished) → (if b then known.key else is_key bytes) ≡ is_key (front ++ bytes)) [
      | true ↦ λ e. h.key (sym e) ∙ sym (is_key-append front bytes (h.begun (sym e)))
      | false ↦ λ e. ap (λ f. is_key (f ++ bytes)) (sym (h.whole (sym e)))
    ] refl

-- the last key frame behind pieces is the last among the packets that end with them
pub last_key_of_packets : (known : Progress) (front : List ℕ) (pieces : List Piece) → Holds known front → GoOn pieces
    → (after_pieces known pieces).last_key ≡ last_key_among known.packets known.last_key (packets_from front pieces)
unfolding after_pieces packets_from last_key_among GoOn
last_key_of_packets known front [] h on = refl
last_key_of_packets known front (piece ∷ pieces) h on =
    elim piece.ends as (λ b. (b ≡ false → 0 < length piece.bytes) → (after_pieces (after_piece known (record { bytes = piece.bytes; ends = b })) pieces).last_key
    ≡ last_key_among known.packets known.last_key (if b then (front ++ piece.bytes) ∷ packets_from [] pieces else packets_from (front ++ piece.bytes) pieces)) [
      | true ↦ λ _. last_key_of_packets (after_piece known (record { bytes = piece.bytes; ends = true })) [] pieces
          (record { whole = λ _. refl; begun = λ e. absurd (true≢false (sym e)); key = λ e. absurd (true≢false (sym e)) }) on.1
          ∙ ap (λ key. last_key_among (one_more known.packets) (key_after key known.packets known.last_key) (packets_from [] pieces)) (key_of known front piece.bytes h)
      | false ↦ λ more. last_key_of_packets (after_piece known (record { bytes = piece.bytes; ends = false })) (front ++ piece.bytes) pieces
          (record { whole = λ e. absurd (true≢false e); begun = λ _. omega (arith, length-append front piece.bytes, more refl); key = λ _. key_of known front piece.bytes h }) on.1
    ] on.0

-- the segments of a page's body go on so
pub segments_go_on : (lacing body : List ℕ) → sum lacing ≡ length body → GoOn (segments lacing body)
unfolding segments GoOn
segments_go_on [] body h = tt
segments_go_on (n ∷ lacing) body h =
    let whole : n + sum lacing ≡ length body = sym (sum_by-cons (λ x. x) n lacing) ∙ h in (
      λ e. elim (cases_lt n 255) [
        | inl low ↦ absurd (true≢false (sym (lt-ltb n 255 low) ∙ e))
        | inr high ↦ omega (arith, length-take n body, whole, high)
      ],
      segments_go_on lacing (drop n body) (omega (arith, length-drop n body)),
    )

-- what is known behind pieces is of the packet that they leave unfinished
pub holds_on : (known : Progress) (front : List ℕ) (pieces : List Piece) → Holds known front → GoOn pieces → Holds (after_pieces known pieces) (left_from front pieces)
unfolding after_pieces left_from GoOn
holds_on known front [] h on = h
holds_on known front (piece ∷ pieces) h on =
    elim piece.ends as (λ b. (b ≡ false → 0 < length piece.bytes) → Holds (after_pieces (after_piece known (record { bytes = piece.bytes; ends = b })) pieces) (if b then left_from [] pieces else left_from (front ++ piece.bytes) pieces)) [
      | true ↦ λ _. holds_on (after_piece known (record { bytes = piece.bytes; ends = true })) [] pieces
          (record { whole = λ _. refl; begun = λ e. absurd (true≢false (sym e)); key = λ e. absurd (true≢false (sym e)) }) on.1
      | false ↦ λ more. holds_on (after_piece known (record { bytes = piece.bytes; ends = false })) (front ++ piece.bytes) pieces
          (record { whole = λ e. absurd (true≢false e); begun = λ _. omega (arith, length-append front piece.bytes, more refl); key = λ _. key_of known front piece.bytes h }) on.1
    ] on.0

-- of a page
pub last_key_of_page : (known : Progress) (front lacing body : List ℕ) → sum lacing ≡ length body → Holds known front
    → (after_pieces known (segments lacing body)).last_key ≡ last_key_among known.packets known.last_key (packets_from front (segments lacing body))
last_key_of_page known front lacing body shape h = last_key_of_packets known front (segments lacing body) h (segments_go_on lacing body shape)

one_unfinished : (known : Progress) (bytes : List ℕ) (b : Bool) → (after_piece known (record { bytes = bytes; ends = b })).unfinished ≡ not b
one_unfinished known bytes true = refl
one_unfinished known bytes false = refl

any_before : (a b : Bool) (n : ℕ) (lacing : List ℕ) → unfinished_by a (last_or (Some n) lacing) ≡ unfinished_by b (last_or (Some n) lacing)
any_before a b n [] = refl
any_before a b n (m ∷ lacing) = any_before a b m lacing

last_decides : (before : Bool) (n : ℕ) (lacing : List ℕ) → unfinished_by (not (nat_lt n 255)) (last_or None lacing) ≡ unfinished_by before (last_or (Some n) lacing)
last_decides before n [] = refl
last_decides before n (m ∷ lacing) = any_before (not (nat_lt n 255)) before m lacing

-- the last lacing value decides whether a packet is unfinished
pub unfinished_by_last : (known : Progress) (lacing body : List ℕ) → (after_pieces known (segments lacing body)).unfinished ≡ unfinished_behind known.unfinished lacing
unfolding after_pieces segments
unfinished_by_last known [] body = refl
unfinished_by_last known (n ∷ lacing) body =
    let piece : Piece = record { bytes = take n body; ends = nat_lt n 255 } in
    unfinished_by_last (after_piece known piece) lacing (drop n body)
    ∙ ap (λ b. unfinished_by b (last_or None lacing)) (one_unfinished known (take n body) (nat_lt n 255))
    ∙ last_decides known.unfinished n lacing
