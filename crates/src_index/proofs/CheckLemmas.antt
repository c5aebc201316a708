-- What the checks of packets that passed say. Judging and laws on judged files cite these.
use Rattle.std.proofs.Common.{◌≡◌, ℕ, ◌-◌, ◌≤◌, ◌<◌, ◌||◌, Bool, true, false, List, [], ◌∷◌, length, Option, Result, Ok, Err, IsOk, nat_le, nat_lt, if◌then◌else◌, inl, inr, true≢false, refl, sym, ◌∙◌, All, lt-ltb}
use Rattle.std.proofs.lemmas.Bool.{cases_lt, le-leb}
use Rattle.std.proofs.lemmas.List.Elements.{All-nil, All-cons}
use Rattle.vid_base.specs.declared.fault.PacketFault.TheVariants.{TooLarge, KeyTooFar}
use Rattle.vid_base.specs.Reading.{◌>>=◌, and_then}
use Rattle.ogg_page.specs.Packets.{Piece, packets_from, left_from}
use Rattle.ogg_link.specs.Track.{is_key}
use Rattle.ogg_link.specs.declared.state.Counted.{Counted}
use Rattle.ogg_link.specs.declared.state.Progress.{Progress}
use Rattle.ogg_link.specs.Progress.{counted, key_after, one_more, after_pieces}
use Rattle.thr_ident.specs.Header.{Header}
use Rattle.thr_setup.specs.Setup.{Contents}
use Rattle.thr_ident.specs.Shape.{shape_of}
use Rattle.thr_frame.specs.CodedFrame.{CodedFrame}
use Rattle.thr_frame.specs.Parsed.{frame_in}
use Rattle.src_index.specs.Said.{Said, WithSetup}
use Rattle.src_index.specs.Checks.{packet_step, packets_over, page_over, left_over, fault_at, said_step, frame_step, is_near, is_too_large, most_packets, most_bytes}

-- what was read before a reading that went well
pub bind_ok : {A B F : Type 0} (read : Result A F) (next : A → Result B F) (value : B) → read >>= next ≡ Ok value → (first : A) × (read ≡ Ok first) × (next first ≡ Ok value)
bind_ok (Ok first) next value h = (first, refl, h)
bind_ok (Err fault) next value h = cc

-- behind a reading that went well
pub behind_ok : {A B F : Type 0} (read : Result A F) (next : Result B F) → IsOk read → read >>= (λ _. next) ≡ next
behind_ok (Ok first) next h = refl
behind_ok (Err fault) next h = absurd (cc)

-- the same, where the fault got another name
pub and_then_ok : {A B E F : Type 0} (read : Result A E) (next : A → Result B F) (named : E → F) (value : B) → and_then read next named ≡ Ok value
    → (first : A) × (read ≡ Ok first) × (next first ≡ Ok value)
and_then_ok (Ok first) next named value h = (first, refl, h)
and_then_ok (Err fault) next named value h = cc

-- a check that did not fail
pub passed : {A F : Type 0} (fails : Bool) (fault : F) (rest : Result A F) (value : A) → (if fails then Err fault else rest) ≡ Ok value → (fails ≡ false) × (rest ≡ Ok value)
passed true fault rest value h = cc
passed false fault rest value h = (refl, h)

-- the second of two
or_second : (a b : Bool) → b ≡ true → a || b ≡ true
or_second true b h = refl
or_second false b h = h

or_first : (a b : Bool) → a ≡ true → a || b ≡ true
or_first true b e = refl
or_first false b e = absurd (true≢false (sym e))

-- a packet that is not too large has few before it, and is short
few_before : (before : ℕ) (packet : List ℕ) → is_too_large before packet ≡ false → before < most_packets
few_before before packet h = elim (cases_lt before most_packets) [
  | inl few ↦ few
  | inr many ↦ absurd (true≢false (sym (or_second (nat_lt most_bytes (length packet)) (nat_le most_packets before) (le-leb most_packets before many)) ∙ h))
]

short_packet : (before : ℕ) (packet : List ℕ) → is_too_large before packet ≡ false → length packet ≤ most_bytes
short_packet before packet h = elim (cases_lt most_bytes (length packet)) [
  | inl long ↦ absurd (true≢false (sym (or_first (nat_lt most_bytes (length packet)) (nat_le most_packets before) (lt-ltb most_bytes (length packet) long)) ∙ h))
  | inr short ↦ short
]

-- a packet that was taken passed no limit, and its kind's check
pub step_passed : (said next : Said) (c : Counted) (packet : List ℕ) → packet_step said c packet ≡ Ok next → (c.number < most_packets) × (said_step said c packet ≡ Ok next) × (length packet ≤ most_bytes)
unfolding packet_step
step_passed said next c packet h =
    let limits = passed (is_too_large c.number packet) TooLarge (said_step said c packet) next h in
    (few_before c.number packet limits.0, limits.1, short_packet c.number packet limits.0)

-- a frame leaves what was said
pub frame_leaves : (header : Header) (contents : Contents) (next : Said) (number : ℕ) (last : Option ℕ) (packet : List ℕ) → frame_step header contents (counted number last packet) packet ≡ Ok next → next ≡ WithSetup header contents
frame_leaves header contents next number last packet h =
    let read = bind_ok (frame_in contents (shape_of header) (nat_lt 0 (number - 3)) packet) (λ checked. if is_near header.shift (number - 3) (key_after (is_key packet) number last) then Ok (WithSetup header contents) else Err KeyTooFar) next h in
    left (is_near header.shift (number - 3) (key_after (is_key packet) number last)) read.2
  where
    left : (near : Bool) → (if near then Ok (WithSetup header contents) else Err KeyTooFar) ≡ Ok next → next ≡ WithSetup header contents
    left true e = cc
    left false e = cc

-- it says something by itself
pub frame_says : (header : Header) (contents : Contents) (next : Said) (number : ℕ) (last : Option ℕ) (packet : List ℕ) → frame_step header contents (counted number last packet) packet ≡ Ok next
    → (coded : Option CodedFrame) × (frame_in contents (shape_of header) (nat_lt 0 (number - 3)) packet ≡ Ok coded)
frame_says header contents next number last packet h =
    let read = bind_ok (frame_in contents (shape_of header) (nat_lt 0 (number - 3)) packet) (λ checked. if is_near header.shift (number - 3) (key_after (is_key packet) number last) then Ok (WithSetup header contents) else Err KeyTooFar) next h in
    (read.0, read.1)

-- each is near
pub frame_near : (header : Header) (contents : Contents) (number : ℕ) (last : Option ℕ) (packet : List ℕ) → frame_step header contents (counted number last packet) packet ≡ Ok (WithSetup header contents)
    → is_near header.shift (number - 3) (key_after (is_key packet) number last) ≡ true
frame_near header contents number last packet h =
    let read = bind_ok (frame_in contents (shape_of header) (nat_lt 0 (number - 3)) packet) (λ checked. if is_near header.shift (number - 3) (key_after (is_key packet) number last) then Ok (WithSetup header contents) else Err KeyTooFar) (WithSetup header contents) h in
    near (is_near header.shift (number - 3) (key_after (is_key packet) number last)) read.2
  where
    near : (b : Bool) → (if b then Ok (WithSetup header contents) else Err KeyTooFar) ≡ Ok (WithSetup header contents) → b ≡ true
    near true e = refl
    near false e = cc

-- the packets of a page
pub page_packets : (at : ℕ) (book : Progress) (said next : Said) (begun : List ℕ) (pieces : List Piece) → page_over at book said begun pieces ≡ Ok next → packets_over at book.packets book.last_key said (packets_from begun pieces) ≡ Ok next
page_packets at book said next begun pieces h =
    let read = bind_ok (packets_over at book.packets book.last_key said (packets_from begun pieces)) (left_over at (after_pieces book pieces).packets (left_from begun pieces)) next h in
    read.1 ∙ (passed (nat_lt most_bytes (length (left_from begun pieces))) (fault_at at (after_pieces book pieces).packets TooLarge) (Ok read.0) next read.2).1

-- none of them is too long
pub packets_short : (at number : ℕ) (last : Option ℕ) (said next : Said) (packets : List (List ℕ)) → packets_over at number last said packets ≡ Ok next → All (λ packet. length packet ≤ most_bytes) packets
unfolding packets_over
packets_short at number last said next [] h = All-nil (λ (p : List ℕ). length p ≤ most_bytes)
packets_short at number last said next (packet ∷ packets) h =
    let first = and_then_ok (packet_step said (counted number last packet) packet) (λ more. packets_over at (one_more number) (key_after (is_key packet) number last) more packets) (fault_at at number) next h in
    All-cons (λ (p : List ℕ). length p ≤ most_bytes) packet packets (step_passed said first.0 (counted number last packet) packet first.1).2
    (packets_short at (one_more number) (key_after (is_key packet) number last) first.0 next packets first.2)
