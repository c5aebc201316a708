-- How far the packets of a track have come: headers, frames, and the last key frame (Theora I, A.2).
use Rattle.std.specs.Prelude.{◌≡◌, ℕ, min, ◌+◌, ◌-◌, ◌/◌, ◌%◌, ◌^◌, ◌<◌, Bool, true, false, not, ◌&&◌, List, [], ◌∷◌, ◌++◌, length, replicate, Option, Some, None, ◌==◌, nat_lt, if◌then◌else◌}
use Rattle.std.specs.List.{last_or}
use Rattle.ogg_page.specs.Packets.{Piece}
use Rattle.ogg_link.specs.declared.state.Progress.{Progress}
use Rattle.ogg_link.specs.declared.state.Counted.{Counted}
use Rattle.ogg_link.specs.Track.{headers, is_key}

-- one packet more; the count stays at the greatest number of 64 bits
abbrev pub one_more : ℕ → ℕ
one_more packets = min (packets + 1) (2 ^ 64 - 1)

-- the last key frame when a packet has ended behind so many
abbrev pub key_after : Bool → ℕ → Option ℕ → Option ℕ
key_after key packets last_key = if key && nat_lt 2 packets then Some (packets - headers) else last_key

-- what the end of a packet tells behind so many others, the last key frame among which is given: its number, whether it holds a
-- key frame, and the last key frame at or before the frame that it carries
abbrev pub counted : ℕ → Option ℕ → List ℕ → Counted
counted packets last_key packet = record { number = packets; key = is_key packet; last_key = key_after (is_key packet) packets last_key }

-- the last key frame when these packets more have ended
unfoldable pub last_key_among : ℕ → Option ℕ → List (List ℕ) → Option ℕ
last_key_among packets last_key [] = last_key
last_key_among packets last_key (packet ∷ more) = last_key_among (one_more packets) (key_after (is_key packet) packets last_key) more

-- one piece more: the first piece of a packet shows whether it is a key frame
abbrev pub after_piece : Progress → Piece → Progress
after_piece known piece =
    let key : Bool = if known.unfinished then known.key else is_key piece.bytes in
    if piece.ends then record { packets = one_more known.packets; unfinished = false; key = false; last_key = key_after key known.packets known.last_key }
    else record { packets = known.packets; unfinished = true; key = key; last_key = known.last_key }

-- all these pieces more
unfoldable pub after_pieces : Progress → List Piece → Progress
after_pieces known [] = known
after_pieces known (piece ∷ pieces) = after_pieces (after_piece known piece) pieces

-- each piece behind which its packet goes on has a byte
unfoldable pub GoOn : List Piece → Type 0
GoOn [] = Unit {0}
GoOn (piece ∷ pieces) = (piece.ends ≡ false → 0 < length piece.bytes) × GoOn pieces

-- the unfinished packet is `front`
pub record Holds (known : Progress) (front : List ℕ) : Type 0 where
  pub whole : known.unfinished ≡ false → front ≡ []
  pub begun : known.unfinished ≡ true → 0 < length front
  pub key : known.unfinished ≡ true → known.key ≡ is_key front

-- a lacing value of 255 leaves a packet unfinished; without one it is as before
abbrev pub unfinished_by : Bool → Option ℕ → Bool
unfinished_by before None = before
unfinished_by before (Some n) = not (nat_lt n 255)

-- behind lacing values the last of them decides
abbrev pub unfinished_behind : Bool → List ℕ → Bool
unfinished_behind before lacing = unfinished_by before (last_or None lacing)

-- the lacing values of a packet of so many bytes
abbrev pub lacing_of : ℕ → List ℕ
lacing_of size = replicate (size / 255) 255 ++ (size % 255) ∷ []

-- the lacing values are those of one whole packet
unfoldable pub is_alone : List ℕ → Bool
is_alone [] = false
is_alone (n ∷ lacing) = if nat_lt n 255 then length lacing == 0 else is_alone lacing

-- the last header ends with one of these lacing values and others follow; so many packets ended before
unfoldable pub is_crowded : ℕ → List ℕ → Bool
is_crowded packets [] = false
is_crowded packets (n ∷ lacing) =
    if nat_lt n 255 then (if packets == 2 then nat_lt 0 (length lacing) else is_crowded (one_more packets) lacing)
    else is_crowded packets lacing
