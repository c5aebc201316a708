-- Packets by their places: the segments from a place on, up to the first that ends a packet (RFC 3533, 6).
use Rattle.std.specs.Prelude.{◌≡◌, ℕ, ◌+◌, ◌≤◌, true, false, List, [], ◌∷◌, ◌++◌, length, take, drop, sum, All, Option, Some, None, Ok, if◌then◌else◌}
use Rattle.ogg_page.specs.Page.{Page, page_at_front, number_at}
use Rattle.ogg_page.specs.Packets.{Piece, segments}
use Rattle.ogg_link.specs.Track.{headers, is_key}
use Rattle.src_index.specs.Index.{PageMark, Place, Frame, Index}
use Rattle.src_index.specs.Track.{frames_of, packet_at}
use Rattle.src_index.specs.Checks.{most_bytes}
use Rattle.src_index.specs.Quantiser.{quantiser_behind}
use Rattle.src_index.specs.Seekable.{IsSeekable}

-- a page stands at that byte, and has this checksum field and these lacing values
pub record IsMarkOf (bytes : List ℕ) (mark : PageMark) : Type 0 where
  pub page : Page
  pub stands : page_at_front (drop mark.at bytes) ≡ Ok page
  pub checksum : number_at 4 22 (drop mark.at bytes) ≡ mark.checksum
  pub lacing : page.lacing ≡ mark.lacing

-- the body of such a page
abbrev pub body_at : List ℕ → PageMark → List ℕ
body_at bytes mark = take (sum mark.lacing) (drop (mark.at + 27 + length mark.lacing) bytes)

-- its segments
abbrev pub segments_at : List ℕ → PageMark → List Piece
segments_at bytes mark = segments mark.lacing (body_at bytes mark)

-- the segments of pages one behind the other
unfoldable pub segments_along : List ℕ → List PageMark → List Piece
segments_along bytes [] = []
segments_along bytes (mark ∷ marks) = segments_at bytes mark ++ segments_along bytes marks

-- the segments from a place on
abbrev pub segments_from : List ℕ → List PageMark → Place → List Piece
segments_from bytes marks place = drop place.segment (segments_along bytes (drop place.page marks))

-- the packet that goes on from `front` and ends with one of these pieces, if it does
unfoldable pub first_packet : List ℕ → List Piece → Option (List ℕ)
first_packet front [] = None
first_packet front (piece ∷ pieces) = if piece.ends then Some (front ++ piece.bytes) else first_packet (front ++ piece.bytes) pieces

-- this packet stands at that place
abbrev pub StandsAt : List ℕ → List PageMark → Place → List ℕ → Type 0
StandsAt bytes marks place packet = first_packet [] (segments_from bytes marks place) ≡ Some packet

-- what is kept of a frame is that of its packet; `before` is the quantiser before it
pub record IsFrameOf (bytes : List ℕ) (marks : List PageMark) (before : ℕ) (frame : Frame) (packet : List ℕ) : Type 0 where
  pub stands : StandsAt bytes marks frame.place packet
  pub key : frame.key ≡ is_key packet
  pub quantiser : frame.quantiser ≡ quantiser_behind before packet
  pub few : length packet ≤ most_bytes

-- the same of frames and packets in order
unfoldable pub AreFramesOf : List ℕ → List PageMark → ℕ → List Frame → List (List ℕ) → Type 0
AreFramesOf bytes marks before [] [] = Unit {0}
AreFramesOf bytes marks before [] (packet ∷ packets) = ⊥
AreFramesOf bytes marks before (frame ∷ frames) [] = ⊥
AreFramesOf bytes marks before (frame ∷ frames) (packet ∷ packets) =
    IsFrameOf bytes marks before frame packet × AreFramesOf bytes marks (quantiser_behind before packet) frames packets

-- the index of a file with these packets: the headers, pages of the file, its frames, and whether it is seekable
pub record IsIndexOf (bytes : List ℕ) (packets : List (List ℕ)) (index : Index) : Type 0 where
  pub whole : headers ≤ length packets
  pub ident : index.ident ≡ packet_at packets 0
  pub comment : index.comment ≡ packet_at packets 1
  pub setup : index.setup ≡ packet_at packets 2
  pub pages : All (IsMarkOf bytes) index.pages
  pub frames : AreFramesOf bytes index.pages 0 index.frames (frames_of packets)
  pub seekable : index.seekable ≡ true → IsSeekable bytes
  pub not_seekable : index.seekable ≡ false → ¬ IsSeekable bytes
