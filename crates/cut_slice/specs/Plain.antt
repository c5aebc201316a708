-- A plain source (own): a file that holds one Theora stream and nothing else, in pages on which each packet is whole.
-- n is the number of a page, f of a frame, k of its last key frame.
use Rattle.std.specs.Prelude.{◌≡◌, ℕ, suc, ◌-◌, ◌^◌, ◌≤◌, Bool, true, ◌&&◌, ◌||◌, List, [], ◌∷◌, ◌++◌, length, take, drop, slice_index, Option, Some, None, ◌==◌, nat_lt, nat_le, if◌then◌else◌}
use Rattle.std.specs.Str.{bytes_eq}
use Rattle.vid_base.specs.Bits.{bits_of, number}
use Rattle.ogg_page.specs.Page.{Page, ArePages}
use Rattle.ogg_page.specs.Packets.{segments, packets_from}
use Rattle.ogg_link.specs.Track.{is_key, magic}
use Rattle.ogg_mux.specs.OutputPages.{Stream}

-- the header packets and the frame packets of a stream
pub record Packets : Type 0 where
  pub ident : List ℕ
  pub comment : List ℕ
  pub setup : List ℕ
  pub frames : List (List ℕ)

-- the packets of a page on which each packet is whole
abbrev pub page_packets : Page → List (List ℕ)
page_packets page = packets_from [] (segments page.lacing page.body)

-- the last lacing byte is there and ends a packet
abbrev pub ends_whole : List ℕ → Bool
ends_whole lacing = nat_lt 0 (length lacing) && nat_lt (slice_index lacing (length lacing - 1)) 255

-- flags 2 on the first page; 0 on the others, or 4 on the last of the file
abbrev pub has_flags : ℕ → Bool → ℕ → Bool
has_flags n last flags = if n == 0 then flags == 2 else flags == 0 || (last && flags == 4)

-- a page of a stream in its place: number n of the file, `last` where no page follows
abbrev pub in_place : ℕ → ℕ → Bool → Page → Bool
in_place serial n last page = page.serial == serial && page.number == n && has_flags n last page.flags && ends_whole page.lacing

-- pages of one stream from number n on, up to the file's end
unfoldable pub in_order : ℕ → ℕ → List Page → Bool
in_order serial n [] = true
in_order serial n (page ∷ pages) = in_place serial n (length pages == 0) page && in_order serial (suc n) pages

-- the packets of pages on which each packet is whole
unfoldable pub all_packets : List Page → List (List ℕ)
all_packets [] = []
all_packets (page ∷ pages) = page_packets page ++ all_packets pages

-- the header packets, where page 0 holds one of at least 42 bytes that begins as an identification header, and page 1 holds two
abbrev pub with_headers : List (List ℕ) → List (List ℕ) → List (List ℕ) → Option Packets
with_headers (ident ∷ []) (comment ∷ setup ∷ []) frames =
    if nat_le 42 (length ident) && bytes_eq (take 7 ident) magic
    then Some (record { ident = ident; comment = comment; setup = setup; frames = frames }) else None
with_headers _ _ _ = None

-- the granule shift: the 5 bits from bit 326 on of the identification header (Theora I, 6.2)
abbrev pub shift_of : List ℕ → ℕ
shift_of ident = number (take 5 (drop 326 (bits_of ident)))

-- what the first frame counts in granule positions: 1 from revision 1 on, which is byte 9 (Theora I, A.2.3)
abbrev pub base_of : List ℕ → ℕ
base_of ident = if slice_index ident 9 == 0 then 0 else 1

-- frame packets from f on stand less than 2 ^ shift after their last key frame, where k is the last before f
unfoldable pub spaced : ℕ → ℕ → ℕ → List (List ℕ) → Bool
spaced shift f k [] = true
spaced shift f k (packet ∷ packets) =
    let key : ℕ = if is_key packet then f else k in
    nat_lt (f - key) (2 ^ shift) && spaced shift (suc f) key packets

-- the first frame is a key frame, and each is near enough to the last key frame
abbrev pub well_keyed : ℕ → List (List ℕ) → Bool
well_keyed shift [] = true
well_keyed shift (packet ∷ packets) = is_key packet && spaced shift 0 0 (packet ∷ packets)

abbrev pub if_keyed : Option Packets → Option Packets
if_keyed None = None
if_keyed (Some packets) = if well_keyed (shift_of packets.ident) packets.frames then Some packets else None

-- the packets of a stream with these pages, if they are those of a plain source
unfoldable pub plain_of : List Page → Option Packets
plain_of (first ∷ second ∷ pages) =
    if in_order first.serial 0 (first ∷ second ∷ pages) then if_keyed (with_headers (page_packets first) (page_packets second) (all_packets pages)) else None
plain_of _ = None

-- a plain source of at most 2 ^ 28 bytes, and its packets
pub record IsPlain (bytes : List ℕ) (packets : Packets) : Type 0 where
  pub size : length bytes ≤ 268435456
  pub pages : List Page
  pub fill : ArePages bytes pages
  pub form : plain_of pages ≡ Some packets

-- no plain source
abbrev pub NotPlain : List ℕ → Type 0
NotPlain bytes = (packets : Packets) → IsPlain bytes packets → ⊥

-- the stream that is written for packets of a plain source: serial number 1, the source's shift
abbrev pub stream_of : Packets → Stream
stream_of packets = record { ident = packets.ident; comment = packets.comment; setup = packets.setup; serial = 1; shift = shift_of packets.ident; base = base_of packets.ident }
