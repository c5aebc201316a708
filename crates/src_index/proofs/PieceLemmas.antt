-- The checks of packets, piece by piece. Judging the segments of a page cites these.
use Rattle.std.proofs.Common.{◌≡◌, ℕ, ◌≤◌, Bool, true, false, List, [], ◌∷◌, ◌++◌, length, Option, Some, None, Result, Ok, Err, nat_lt, if◌then◌else◌, refl, ap, sym, subst, ◌∙◌, arith}
use Rattle.vid_base.specs.declared.fault.PacketFault.{PacketFault}
use Rattle.vid_base.specs.Reading.{and_then}
use Rattle.ogg_page.specs.Packets.{Piece, packets_from, left_from}
use Rattle.ogg_link.specs.Track.{is_key}
use Rattle.ogg_link.specs.declared.state.Progress.{Progress}
use Rattle.ogg_link.specs.Progress.{counted, key_after, one_more, after_piece, Holds}
use Rattle.ogg_link.proofs.EndLemmas.{piece_ends}
use Rattle.src_index.specs.declared.headers.Headers.{Headers}
use Rattle.src_index.specs.declared.headers.Headers.TheVariants.{Begun, All}
use Rattle.src_index.specs.declared.headers.Heads.TheVariants.{Nothing, First, Second}
use Rattle.src_index.specs.declared.fault.Refusal.{Refusal}
use Rattle.src_index.specs.declared.fault.Refusal.TheVariants.{Bad, ReadFault, NoMem}
use Rattle.src_index.specs.Said.{Said, said_count, shift_of}
use Rattle.src_index.specs.Headers.{packets_in, said_of}
use Rattle.src_index.specs.Refusing.{RefusesAs, RefusesPacket}
use Rattle.src_index.specs.Checks.{packet_step, packets_over, fault_at}
use Rattle.src_index.specs.Index.{Place}
use Rattle.src_index.specs.Kept.{Kept, with_place, with_end, with_bytes, with_header, with_frame}
use Rattle.src_index.specs.Holding.{IsTallied}
use Rattle.src_index.proofs.SpacingLemmas.{tallied_more}

-- at most three headers have ended, and so many are said
pub few_headers : (headers : Headers) → length (packets_in headers) ≤ 3
few_headers (Begun Nothing) = omega arith
few_headers (Begun (First ident)) = omega arith
few_headers (Begun (Second ident comment)) = omega arith
few_headers (All headers) = omega arith

pub headers_said : (headers : Headers) → length (packets_in headers) ≡ said_count (said_of headers)
headers_said (Begun Nothing) = refl
headers_said (Begun (First ident)) = refl
headers_said (Begun (Second ident comment)) = refl
headers_said (All headers) = refl

-- a piece behind which its packet goes on changes no check
pub piece_goes_on : (at : ℕ) (book : Progress) (said : Said) (begun bytes : List ℕ) (more : List Piece)
    → packets_over at (after_piece book (record { bytes = bytes; ends = false })).packets (after_piece book (record { bytes = bytes; ends = false })).last_key said (packets_from (begun ++ bytes) more)
    ≡ packets_over at book.packets book.last_key said (packets_from begun (record { bytes = bytes; ends = false } ∷ more))
unfolding packets_from
piece_goes_on at book said begun bytes more = refl

-- a piece with which its packet ends, and the packet passes
pub piece_passes : (at : ℕ) (book : Progress) (said next : Said) (begun bytes : List ℕ) (more : List Piece) → Holds book begun
    → packet_step said (counted book.packets book.last_key (begun ++ bytes)) (begun ++ bytes) ≡ Ok next
    → packets_over at (after_piece book (record { bytes = bytes; ends = true })).packets (after_piece book (record { bytes = bytes; ends = true })).last_key next (packets_from [] more)
    ≡ packets_over at book.packets book.last_key said (packets_from begun (record { bytes = bytes; ends = true } ∷ more))
unfolding packets_from packets_over
piece_passes at book said next begun bytes more holds h =
    let packet = begun ++ bytes in
    ap (λ (k : Progress). packets_over at k.packets k.last_key next (packets_from [] more)) (piece_ends book begun bytes holds)
    ∙ sym (ap (λ step. and_then step (λ after. packets_over at (one_more book.packets) (key_after (is_key packet) book.packets book.last_key) after (packets_from [] more)) (fault_at at book.packets)) h)

-- the packet does not pass
pub piece_refused : (at : ℕ) (book : Progress) (said : Said) (begun bytes : List ℕ) (more : List Piece) (refusal : Refusal)
    → RefusesPacket at book.packets refusal (packet_step said (counted book.packets book.last_key (begun ++ bytes)) (begun ++ bytes))
    → RefusesAs refusal (packets_over at book.packets book.last_key said (packets_from begun (record { bytes = bytes; ends = true } ∷ more)))
unfolding packets_from packets_over
piece_refused at book said begun bytes more (Bad fault) h =
    refused (packet_step said (counted book.packets book.last_key (begun ++ bytes)) (begun ++ bytes)) h
  where
    refused : (step : Result Said PacketFault) → and_then step Ok (fault_at at book.packets) ≡ Err fault
        → and_then step (λ after. packets_over at (one_more book.packets) (key_after (is_key (begun ++ bytes)) book.packets book.last_key) after (packets_from [] more)) (fault_at at book.packets) ≡ Err fault
    refused (Ok after) e = cc
    refused (Err other) e = e
piece_refused at book said begun bytes more ReadFault h = absurd h
piece_refused at book said begun bytes more NoMem h = tt

-- what is kept stays as much as is counted
pub piece_tallied : (book behind : Progress) (headers next : Headers) (begun bytes : List ℕ) (old new : Kept) (place : Place) → behind ≡ after_piece book (record { bytes = bytes; ends = true }) → Holds book begun
    → old.begun ≡ begun → old.headers ≡ packets_in headers → packet_step (said_of headers) (counted book.packets book.last_key (begun ++ bytes)) (begun ++ bytes) ≡ Ok (said_of next)
    → new ≡ with_place place (with_end (with_bytes bytes old)) → IsTallied book.packets book.last_key (shift_of (said_of headers)) old
    → IsTallied behind.packets behind.last_key (shift_of (said_of next)) new
piece_tallied book behind headers next begun bytes old new place after holds begun_is headers_are step kept t =
    let packet = old.begun ++ bytes in
    let same : packet ≡ begun ++ bytes = ap (λ f. f ++ bytes) begun_is in
    let now : IsTallied book.packets book.last_key (shift_of (said_of headers)) (with_bytes bytes old) = record { all = t.all; headers_first = t.headers_first; spaced = t.spaced } in
    let passes : packet_step (said_of headers) (counted book.packets book.last_key packet) packet ≡ Ok (said_of next) = ap (λ p. packet_step (said_of headers) (counted book.packets book.last_key p) p) same ∙ step in
    let more = tallied_more (said_of headers) (said_of next) book.packets book.last_key (with_bytes bytes old) (ap length headers_are ∙ headers_said headers) passes now in
    let placed : IsTallied (one_more book.packets) (key_after (is_key packet) book.packets book.last_key) (shift_of (said_of next)) (with_place place (with_end (with_bytes bytes old))) =
    record { all = more.all; headers_first = more.headers_first; spaced = more.spaced } in
    let behind_is : behind ≡ record { packets = one_more book.packets; unfinished = false; key = false; last_key = key_after (is_key packet) book.packets book.last_key } =
    after ∙ piece_ends book begun bytes holds ∙ ap (λ p. record { packets = one_more book.packets; unfinished = false; key = false; last_key = key_after (is_key p) book.packets book.last_key }) (sym same) in
    subst (λ (b : Progress). IsTallied b.packets b.last_key (shift_of (said_of next)) new) (sym behind_is) (subst (IsTallied (one_more book.packets) (key_after (is_key packet) book.packets book.last_key) (shift_of (said_of next))) (sym kept) placed)

-- a piece with which something ends is one that ends
pub ends_so : (ends : Bool) → (A : Type 0) → (found : Option A) (value : A) → (ends ≡ false → found ≡ None) → found ≡ Some value → ends ≡ true
ends_so true A found value none some = refl
ends_so false A found value none some = let no : None ≡ Some value = sym (none refl) ∙ some in absurd (cc)

-- what without which something would be there goes on
pub goes_on_so : (ends : Bool) → (A : Type 0) → (found : Option A) (value : A) → (ends ≡ true → found ≡ Some value) → ((other : A) → found ≡ Some other → ⊥) → ends ≡ false
goes_on_so true A found value some none = absurd (none value (some refl))
goes_on_so false A found value some none = refl

-- what a piece leaves unfinished
pub left_none : (begun bytes : List ℕ) → left_from begun (record { bytes = bytes; ends = true } ∷ []) ≡ []
unfolding left_from
left_none begun bytes = refl

pub left_more : (begun bytes : List ℕ) → left_from begun (record { bytes = bytes; ends = false } ∷ []) ≡ begun ++ bytes
unfolding left_from
left_more begun bytes = refl

-- the end of a packet leaves nothing of the next
pub none_begun : (kept : Kept) → (with_end kept).begun ≡ []
none_begun kept = elim (nat_lt (length kept.headers) 3) as (λ b. (if b then with_header kept else with_frame kept).begun ≡ []) [ true ↦ refl | false ↦ refl ]
