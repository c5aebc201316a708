-- The packets that pages carry: a lacing value of 255 continues a packet, and one below 255 ends it (RFC 3533, 6).
use Rattle.std.specs.Prelude.{ℕ, Bool, List, [], ◌∷◌, ◌++◌, take, drop, nat_lt, if◌then◌else◌}
use Rattle.ogg_page.specs.Page.{Page}

-- bytes of a packet that stand together, and whether the packet ends with them
pub record Piece : Type 0 where
  pub bytes : List ℕ
  pub ends : Bool

-- the segments of a page's body, one for each lacing value
unfoldable pub segments : List ℕ → List ℕ → List Piece
segments [] body = []
segments (n ∷ lacing) body = record { bytes = take n body; ends = nat_lt n 255 } ∷ segments lacing (drop n body)

-- the packets that end with these pieces, the first of which goes on from `front`
unfoldable pub packets_from : List ℕ → List Piece → List (List ℕ)
packets_from front [] = []
packets_from front (piece ∷ pieces) =
    if piece.ends then (front ++ piece.bytes) ∷ packets_from [] pieces
    else packets_from (front ++ piece.bytes) pieces

-- the bytes of the packet that is unfinished behind these pieces
unfoldable pub left_from : List ℕ → List Piece → List ℕ
left_from front [] = front
left_from front (piece ∷ pieces) = if piece.ends then left_from [] pieces else left_from (front ++ piece.bytes) pieces

-- the segments of pages one behind the other
unfoldable pub segments_of : List Page → List Piece
segments_of [] = []
segments_of (page ∷ pages) = segments page.lacing page.body ++ segments_of pages

-- the packets of a track with these pages
unfoldable pub packets_of : List Page → List (List ℕ)
packets_of pages = packets_from [] (segments_of pages)
