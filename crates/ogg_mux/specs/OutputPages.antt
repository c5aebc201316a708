-- The pages that are written for a stream, and when a page is closed (own; of the form of RFC 3533, 6).
use Rattle.std.specs.Prelude.{ℕ, zero, suc, ◌+◌, ◌-◌, ◌/◌, ◌%◌, ◌^◌, Bool, false, ◌||◌, List, [], ◌∷◌, ◌++◌, length, take, drop, Option, Some, None, is_none, unwrap_or, nat_le, ◌==◌, if◌then◌else◌}
use Rattle.ogg_page.specs.Page.{Page}
use Rattle.ogg_page.specs.Written.{written_pages}
use Rattle.ogg_link.specs.Track.{is_key, granule_of}

-- what one lacing value counts: at most 255 bytes of a packet; the granule position where the packet ends with them;
-- and the least body size, if any, with which the segment closes its page
pub record Segment : Type 0 where
  pub bytes : List ℕ
  pub granule : Option ℕ
  pub least : Option ℕ

-- a page to which segments are added; its last packet may go on, and where it is closed the next segment stands on a new page
pub record Held : Type 0 where
  pub flags : ℕ
  pub granule : ℕ
  pub number : ℕ
  pub lacing : List ℕ
  pub body : List ℕ
  pub goes_on : Bool
  pub closed : Bool

-- the granule position of a page on which no packet ends
abbrev pub no_granule : ℕ
no_granule = 2 ^ 64 - 1

-- a page with nothing on it
abbrev pub empty_page : ℕ → ℕ → Held
empty_page flags number = record { flags = flags; granule = no_granule; number = number; lacing = []; body = []; goes_on = false; closed = false }

-- the first page of a stream
abbrev pub first_page : Held
first_page = empty_page 2 0

-- the page that follows; it has flag 1 where a packet goes on from the page before
unfoldable pub next_page : Held → Held
next_page held = empty_page (if held.goes_on then 1 else 0) ((held.number + 1) % 2 ^ 32)

-- a body of this size is closed by a segment with that least size
abbrev pub reaches : ℕ → Option ℕ → Bool
reaches size None = false
reaches size (Some least) = nat_le least size

-- the page with one more segment; it is closed when it has 255 lacing values
unfoldable pub grown : Held → Segment → Held
grown held segment =
    let lacing : List ℕ = held.lacing ++ length segment.bytes ∷ [] in
    let body : List ℕ = held.body ++ segment.bytes in
    record {
      flags = held.flags;
      granule = unwrap_or segment.granule held.granule;
      number = held.number;
      lacing = lacing;
      body = body;
      goes_on = is_none segment.granule;
      closed = (length lacing == 255) || reaches (length body) segment.least;
    }

-- a held page as a page of the stream with this serial number, with these flags beside its own
abbrev pub page_with : ℕ → ℕ → Held → Page
page_with serial flags held = record { flags = held.flags + flags; granule = held.granule; serial = serial; number = held.number; lacing = held.lacing; body = held.body }

-- the last page, unless it has no lacing value
abbrev pub last_pages : ℕ → ℕ → Held → List Page
last_pages serial last held = if length held.lacing == 0 then [] else page_with serial last held ∷ []

-- the pages from the held one on, when these segments are added; the last has the flags `last` beside its own
unfoldable pub pages_list : ℕ → ℕ → Held → List Segment → List Page
pages_list serial last held [] = last_pages serial last held
pages_list serial last held (segment ∷ segments) =
    if held.closed then page_with serial 0 held ∷ pages_list serial last (grown (next_page held) segment) segments
    else pages_list serial last (grown held segment) segments

-- their bytes
unfoldable pub pages_from : ℕ → ℕ → Held → List Segment → List ℕ
pages_from serial last held segments = written_pages (pages_list serial last held segments)

-- n segments of 255 bytes, and one of the bytes that are left
unfoldable pub cut_at_255 : ℕ → List ℕ → ℕ → Option ℕ → List Segment
cut_at_255 zero bytes granule least = record { bytes = bytes; granule = Some granule; least = least } ∷ []
cut_at_255 (suc n) bytes granule least = record { bytes = take 255 bytes; granule = None; least = None } ∷ cut_at_255 n (drop 255 bytes) granule least

-- a packet in segments, of which the last has fewer than 255 bytes
abbrev pub packet_segments : List ℕ → ℕ → Option ℕ → List Segment
packet_segments packet granule least = cut_at_255 (length packet / 255) packet granule least

-- what stands before the frames of a stream, and how they are numbered
pub record Stream : Type 0 where
  pub ident : List ℕ
  pub comment : List ℕ
  pub setup : List ℕ
  pub serial : ℕ
  pub shift : ℕ
  pub base : ℕ

-- the header packets: the identification header stands alone, and the page on which the setup header ends is closed
abbrev pub header_segments : Stream → List Segment
header_segments stream = packet_segments stream.ident 0 (Some 0) ++ packet_segments stream.comment 0 None ++ packet_segments stream.setup 0 (Some 0)

-- frame packets from frame f on, where k is the last key frame before it; the end of one closes its page from the body size
-- `least` on
unfoldable pub frame_segments : ℕ → ℕ → ℕ → ℕ → ℕ → List (List ℕ) → List Segment
frame_segments least base shift f k [] = []
frame_segments least base shift f k (packet ∷ packets) =
    let key : ℕ = if is_key packet then f else k in
    packet_segments packet (granule_of base shift key f) (Some least) ++ frame_segments least base shift (f + 1) key packets

-- the pages of a stream with these frame packets; where there are any, the last page has flag 4
unfoldable pub paged_list : ℕ → Stream → List (List ℕ) → List Page
paged_list least stream [] = pages_list stream.serial 0 first_page (header_segments stream)
paged_list least stream (packet ∷ packets) = pages_list stream.serial 4 first_page (header_segments stream ++ frame_segments least stream.base stream.shift 0 0 (packet ∷ packets))

-- their bytes
unfoldable pub paged : ℕ → Stream → List (List ℕ) → List ℕ
paged least stream packets = written_pages (paged_list least stream packets)
