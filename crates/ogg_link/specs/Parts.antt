-- Parts: ranges of a page's body, each of one packet (RFC 3533, 6).
use Rattle.std.specs.Prelude.{◌≡◌, ℕ, ◌+◌, ◌-◌, ◌≤◌, Bool, true, false, not, List, [], ◌∷◌, take, drop, map, nat_lt, if◌then◌else◌}
use Rattle.ogg_page.specs.Packets.{Piece, segments, packets_from, left_from}
use Rattle.ogg_link.specs.declared.part.Part.{Part}

-- the parts from byte `at` on, where the present packet has its bytes since byte `first` and `starts` says whether it starts
-- there: a lacing value below 255 ends a part, and bytes behind the last such value are a part that does not end
unfoldable pub parts_from : ℕ → ℕ → Bool → List ℕ → List Part
parts_from first at starts [] = if nat_lt first at then record { first = first; past = at; starts = starts; ends = false } ∷ [] else []
parts_from first at starts (n ∷ lacing) =
    if nat_lt n 255 then record { first = first; past = at + n; starts = starts; ends = true } ∷ parts_from (at + n) (at + n) true lacing
    else parts_from first (at + n) starts lacing

-- the parts of a page's body, before which a packet is unfinished or not
abbrev pub parts_of : Bool → List ℕ → List Part
parts_of unfinished lacing = parts_from 0 0 (not unfinished) lacing

-- a part lies in so many bytes
abbrev pub IsWithin : ℕ → Part → Type 0
IsWithin size part = (part.first ≤ part.past) × (part.past ≤ size)

-- the first part starts a packet where none was unfinished before it, and each later part where the part before it ends one
unfoldable pub StartBehindEnds : Bool → List Part → Type 0
StartBehindEnds whole [] = Unit {0}
StartBehindEnds whole (part ∷ parts) = (part.starts ≡ whole) × StartBehindEnds part.ends parts

-- the bytes of a part, and whether the packet ends with them
abbrev pub piece_of : List ℕ → Part → Piece
piece_of body part = record { bytes = take (part.past - part.first) (drop part.first body); ends = part.ends }

abbrev pub pieces_of : List ℕ → List Part → List Piece
pieces_of body parts = map (piece_of body) parts

-- whatever packet was unfinished before the page, the parts make of it the packets that the page's segments make,
-- and leave unfinished what those leave
pub record Joins (parts : List Part) (lacing body : List ℕ) : Type 0 where
  pub packets : (front : List ℕ) → packets_from front (pieces_of body parts) ≡ packets_from front (segments lacing body)
  pub left : (front : List ℕ) → left_from front (pieces_of body parts) ≡ left_from front (segments lacing body)

-- the lacing values that count for the track: none where the page is of another stream
abbrev pub lacing_if : Bool → List ℕ → List ℕ
lacing_if track lacing = if track then lacing else []
