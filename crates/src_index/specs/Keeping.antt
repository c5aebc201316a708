-- How what is kept stands to the bytes of a file, page by page (private). `todo` are the segments of the page that are left.
use Rattle.std.specs.Prelude.{◌≡◌, ℕ, ◌≤◌, List, [], ◌++◌, length, take, drop, All}
use Rattle.ogg_page.specs.Packets.{Piece}
use Rattle.ogg_link.specs.Track.{headers}
use Rattle.src_index.specs.Quantiser.{last_quantiser}
use Rattle.src_index.specs.Gather.{IsMarkOf, AreFramesOf, first_packet, segments_along, segments_from}
use Rattle.src_index.specs.Kept.{Kept}

-- these packets have ended; from where the next begins, the segments give it as the bytes of it that are there go on with those
-- that are left
pub record Keeps (bytes : List ℕ) (packets : List (List ℕ)) (kept : Kept) (todo : List Piece) : Type 0 where
  pub headers_are : kept.headers ≡ take headers packets
  pub marks_are : All (IsMarkOf bytes) kept.marks
  pub frames_are : AreFramesOf bytes kept.marks 0 kept.frames (drop headers packets)
  pub quantiser_is : kept.quantiser ≡ last_quantiser 0 (drop headers packets)
  pub page_in : kept.place.page ≤ length kept.marks
  pub segment_in : kept.place.segment ≤ length (segments_along bytes (drop kept.place.page kept.marks))
  pub goes_on : (more : List Piece) → first_packet [] (segments_from bytes kept.marks kept.place ++ more) ≡ first_packet kept.begun (todo ++ more)
