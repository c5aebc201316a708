-- What is kept of the packets so far, and of a packet or a page more (private).
use Rattle.std.specs.Prelude.{ℕ, ◌+◌, Bool, List, [], ◌∷◌, ◌++◌, length, ◌==◌, nat_lt, if◌then◌else◌}
use Rattle.ogg_page.specs.Packets.{Piece, segments}
use Rattle.ogg_link.specs.Track.{is_key}
use Rattle.src_index.specs.Index.{PageMark, Place, Frame}
use Rattle.src_index.specs.Quantiser.{quantiser_behind}

-- the headers that have ended, the pages and the frames, the quantiser of the last frame, and where the next packet begins with
-- the bytes of it that are there
pub record Kept : Type 0 where
  pub headers : List (List ℕ)
  pub marks : List PageMark
  pub frames : List Frame
  pub quantiser : ℕ
  pub place : Place
  pub begun : List ℕ

-- a header has ended
abbrev pub with_header : Kept → Kept
with_header kept = record kept { headers = kept.headers ++ kept.begun ∷ []; begun = [] }

-- the frame whose packet has ended
abbrev pub frame_from : Kept → Frame
frame_from kept = record { place = kept.place; key = is_key kept.begun; quantiser = quantiser_behind kept.quantiser kept.begun }

-- a frame has ended
abbrev pub with_frame : Kept → Kept
with_frame kept = record kept { frames = kept.frames ++ frame_from kept ∷ []; quantiser = quantiser_behind kept.quantiser kept.begun; begun = [] }

-- a packet has ended
abbrev pub with_end : Kept → Kept
with_end kept = if nat_lt (length kept.headers) 3 then with_header kept else with_frame kept

-- more bytes of the packet that has begun
abbrev pub with_bytes : List ℕ → Kept → Kept
with_bytes bytes kept = record kept { begun = kept.begun ++ bytes }

-- the next packet begins at this place
abbrev pub with_place : Place → Kept → Kept
with_place place kept = record kept { place = place }

-- a piece more, behind which a packet would begin at the place `next`
abbrev pub with_piece : Place → Piece → Kept → Kept
with_piece next piece kept = if piece.ends then with_place next (with_end (with_bytes piece.bytes kept)) else with_bytes piece.bytes kept

-- the pieces of a page from one on
unfoldable pub with_pieces : ℕ → ℕ → Kept → List Piece → Kept
with_pieces page segment kept [] = kept
with_pieces page segment kept (piece ∷ pieces) = with_pieces page (segment + 1) (with_piece (record { page = page; segment = segment + 1 }) piece kept) pieces

-- a page more: where no packet has begun, the next begins with it
abbrev pub begin_page : PageMark → Kept → Kept
begin_page mark kept = record kept {
  marks = kept.marks ++ mark ∷ [];
  place = if length kept.begun == 0 then record { page = length kept.marks; segment = 0 } else kept.place;
}

abbrev pub with_page : PageMark → List Piece → Kept → Kept
with_page mark pieces kept = with_pieces (length kept.marks) 0 (begin_page mark kept) pieces

-- the next page of the file, which is of the track or of another stream
abbrev pub page_kept : Bool → PageMark → List ℕ → Kept → Kept
page_kept track mark body kept = if track then with_page mark (segments mark.lacing body) kept else kept
