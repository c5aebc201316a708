-- The pages of packets of which each stands whole on one page (own; lacing as in RFC 3533, 6).
-- n is the number of a page, f of a frame, k of its last key frame.
use Rattle.std.specs.Prelude.{ℕ, zero, suc, ◌+◌, ◌/◌, ◌%◌, ◌<◌, List, [], ◌∷◌, ◌++◌, length, sum_by, ◌==◌, if◌then◌else◌}
use Rattle.ogg_page.specs.Page.{Page}
use Rattle.ogg_link.specs.Track.{is_key, granule_of}
use Rattle.ogg_mux.specs.OutputPages.{Stream}

-- n lacing values of 255, and one below it
unfoldable pub lacing_values : ℕ → ℕ → List ℕ
lacing_values zero rest = rest ∷ []
lacing_values (suc n) rest = 255 ∷ lacing_values n rest

-- the lacing values of a packet of that size
abbrev pub lacing_of : ℕ → List ℕ
lacing_of size = lacing_values (size / 255) (size % 255)

-- a packet that has at most 255 lacing values
abbrev pub IsShort : List ℕ → Type 0
IsShort packet = length packet / 255 < 255

-- how many lacing values packets have
abbrev pub lacing_count : List (List ℕ) → ℕ
lacing_count packets = sum_by (λ packet. length packet / 255 + 1) packets

-- the page of the identification header, and that of the other headers
abbrev pub header_pages : Stream → List Page
header_pages stream =
    record { flags = 2; granule = 0; serial = stream.serial; number = 0; lacing = lacing_of (length stream.ident); body = stream.ident }
    ∷ record { flags = 0; granule = 0; serial = stream.serial; number = 1; lacing = lacing_of (length stream.comment) ++ lacing_of (length stream.setup); body = stream.comment ++ stream.setup }
    ∷ []

-- the pages of frame packets, the last with flag 4
unfoldable pub frame_pages : Stream → ℕ → ℕ → ℕ → List (List ℕ) → List Page
frame_pages stream n f k [] = []
frame_pages stream n f k (packet ∷ packets) =
    let key : ℕ = if is_key packet then f else k in
    record { flags = if length packets == 0 then 4 else 0; granule = granule_of stream.base stream.shift key f; serial = stream.serial; number = n; lacing = lacing_of (length packet); body = packet }
    ∷ frame_pages stream (n + 1) (f + 1) key packets
