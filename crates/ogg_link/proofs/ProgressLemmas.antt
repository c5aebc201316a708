-- Headers that are not crowded, and the packets of pieces one behind the other. Written streams, whose pages a walk goes over, cite these.
use Rattle.std.proofs.Common.{◌≡◌, ℕ, zero, suc, min, ◌+◌, ◌-◌, ◌/◌, ◌%◌, ◌^◌, ◌<◌, ◌≤◌, Bool, true, false, List, [], ◌∷◌, ◌++◌, length, length-append, replicate, take, drop, sum, nat_lt, if◌then◌else◌, ◌==◌, refl, arith, ne_eqb, lt-ltb}
use Rattle.std.proofs.lemmas.List.{length-replicate}
use Rattle.std.proofs.lemmas.List.Folds.{sum_by-replicate}
use Rattle.std.proofs.lemmas.List.Sums.{sum_by-append, sum_by-cons}
use Rattle.ogg_page.specs.Packets.{Piece, segments, packets_from}
use Rattle.ogg_link.specs.Track.{is_key}
use Rattle.ogg_link.specs.declared.state.Progress.{Progress}
use Rattle.ogg_link.specs.Progress.{one_more, key_after, after_piece, after_pieces, is_alone, is_crowded, lacing_of}

-- behind the headers nothing is crowded
pub not_crowded : (packets : ℕ) (lacing : List ℕ) → 3 ≤ packets → is_crowded packets lacing ≡ false
unfolding is_crowded
not_crowded packets [] h = refl
not_crowded packets (n ∷ lacing) h =
    let other : (packets == 2) ≡ false = ne_eqb packets 2 (λ e. absurd (omega (arith, e))) in
    rw other (elim (nat_lt n 255) as (λ b. (if b then is_crowded (one_more packets) lacing else is_crowded packets lacing) ≡ false) [
      | true ↦ not_crowded (one_more packets) lacing (omega arith)
      | false ↦ not_crowded packets lacing h
    ])

one_piece_up : (known : Progress) (piece : Piece) → known.packets ≤ 2 ^ 64 - 1 → known.packets ≤ (after_piece known piece).packets
one_piece_up known piece h =
    let key : Bool = if known.unfinished then known.key else is_key piece.bytes in
    let more : Progress = record { packets = one_more known.packets; unfinished = false; key = false; last_key = key_after key known.packets known.last_key } in
    let same : Progress = record { packets = known.packets; unfinished = true; key = key; last_key = known.last_key } in
    elim piece.ends as (λ b. known.packets ≤ (if◌then◌else◌ {A = Progress} b more same).packets) [
      | true ↦ omega arith
      | false ↦ omega arith
    ]

one_piece_fits : (known : Progress) (piece : Piece) → known.packets ≤ 2 ^ 64 - 1 → (after_piece known piece).packets ≤ 2 ^ 64 - 1
one_piece_fits known piece h =
    let key : Bool = if known.unfinished then known.key else is_key piece.bytes in
    let more : Progress = record { packets = one_more known.packets; unfinished = false; key = false; last_key = key_after key known.packets known.last_key } in
    let same : Progress = record { packets = known.packets; unfinished = true; key = key; last_key = known.last_key } in
    elim piece.ends as (λ b. (if◌then◌else◌ {A = Progress} b more same).packets ≤ 2 ^ 64 - 1) [
      | true ↦ omega arith
      | false ↦ h
    ]

-- the count of packets never falls
pub packets_grow : (known : Progress) (pieces : List Piece) → known.packets ≤ 2 ^ 64 - 1 → known.packets ≤ (after_pieces known pieces).packets
unfolding after_pieces
packets_grow known [] h = omega arith
packets_grow known (piece ∷ pieces) h =
    omega (arith, one_piece_up known piece h, packets_grow (after_piece known piece) pieces (one_piece_fits known piece h))

-- where at most two packets have ended behind these lacing values, one value more crowds nothing
pub not_crowded-more : (known : Progress) (lacing body : List ℕ) (n : ℕ) → known.packets ≤ 2 ^ 64 - 1 → (after_pieces known (segments lacing body)).packets ≤ 2
    → is_crowded known.packets (lacing ++ n ∷ []) ≡ false
unfolding is_crowded after_pieces segments
not_crowded-more known [] body n fits h = elim (nat_lt n 255) as (λ b. (if b then (if known.packets == 2 then nat_lt 0 0 else false) else false) ≡ false) [
  | true ↦ elim (known.packets == 2) as (λ c. (if c then nat_lt 0 0 else false) ≡ false) [ true ↦ refl | false ↦ refl ]
  | false ↦ refl
]
not_crowded-more known (m ∷ lacing) body n fits h = elim (nat_lt m 255) as (λ b. (after_pieces (after_piece known (record { bytes = take m body; ends = b })) (segments lacing (drop m body))).packets ≤ 2
    → (if b then (if known.packets == 2 then nat_lt 0 (length (lacing ++ n ∷ [])) else is_crowded (one_more known.packets) (lacing ++ n ∷ [])) else is_crowded known.packets (lacing ++ n ∷ [])) ≡ false) [
      | true ↦ λ few.
          let next : Progress = after_piece known (record { bytes = take m body; ends = true }) in
          let up : one_more known.packets ≤ 2 = omega (arith, few, packets_grow next (segments lacing (drop m body)) (omega arith)) in
          rw (ne_eqb known.packets 2 (λ e. absurd (omega (arith, e, up)))) (not_crowded-more next lacing (drop m body) n (omega arith) few)
      | false ↦ λ few. not_crowded-more (after_piece known (record { bytes = take m body; ends = false })) lacing (drop m body) n fits few
    ] h

-- pieces behind pieces
pub after_pieces-append : (known : Progress) (xs ys : List Piece) → after_pieces known (xs ++ ys) ≡ after_pieces (after_pieces known xs) ys
unfolding after_pieces
after_pieces-append known [] ys = refl
after_pieces-append known (x ∷ xs) ys = after_pieces-append (after_piece known x) xs ys

-- the count of packets grows by those that end, while it is below the greatest number of 64 bits
pub packets_counted : (known : Progress) (front : List ℕ) (pieces : List Piece) → known.packets ≤ 2 ^ 64 - 1
    → (after_pieces known pieces).packets ≡ min (known.packets + length (packets_from front pieces)) (2 ^ 64 - 1)
unfolding after_pieces packets_from
packets_counted known front [] h = omega arith
packets_counted known front (piece ∷ pieces) h =
    elim piece.ends as (λ b. (after_pieces (after_piece known (record { bytes = piece.bytes; ends = b })) pieces).packets
    ≡ min (known.packets + length (if b then (front ++ piece.bytes) ∷ packets_from [] pieces else packets_from (front ++ piece.bytes) pieces)) (2 ^ 64 - 1)) [
      | true ↦ omega (arith, packets_counted (after_piece known (record { bytes = piece.bytes; ends = true })) [] pieces (omega arith))
      | false ↦ packets_counted (after_piece known (record { bytes = piece.bytes; ends = false })) (front ++ piece.bytes) pieces h
    ]

alone_behind : (k n : ℕ) → n < 255 → is_alone (replicate k 255 ++ n ∷ []) ≡ true
unfolding is_alone
alone_behind zero n h = rw (lt-ltb n 255 h) refl
alone_behind (suc k) n h = alone_behind k n h

-- a packet stands alone behind its lacing values
pub packet_alone : (size : ℕ) → is_alone (lacing_of size) ≡ true
packet_alone size = alone_behind (size / 255) (size % 255) (omega arith)

-- a packet below 65,025 bytes has at most 255 lacing values
pub packet_fits : (size : ℕ) → size < 65025 → length (lacing_of size) ≤ 255
packet_fits size h = omega (arith, length-append (replicate (size / 255) 255) (size % 255 ∷ []), length-replicate {A = ℕ} (size / 255) 255)

-- they count its bytes
pub packet_counted : (size : ℕ) → sum (lacing_of size) ≡ size
packet_counted size = omega (arith, sum_by-append (λ n. n) (replicate (size / 255) 255) (size % 255 ∷ []), sum_by-replicate (λ n. n) (size / 255) 255, sum_by-cons (λ n. n) (size % 255) [])
