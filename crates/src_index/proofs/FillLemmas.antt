-- The packet of a frame stands at its place. `Source::packet` cites these.
use Rattle.std.proofs.Common.{◌≡◌, ℕ, ◌+◌, ◌<◌, ◌≤◌, Bool, List, [], length, drop, get_or, Some, Ok, ap, sym, ◌∙◌, arith}
use Rattle.std.proofs.lemmas.List.{get_or-drop}
use Rattle.ogg_link.specs.Track.{is_key}
use Rattle.src_index.specs.Index.{PageMark, Place, Frame, Index, frame_count}
use Rattle.src_index.specs.Track.{frame_at, frames_of}
use Rattle.src_index.specs.Checks.{most_bytes}
use Rattle.src_index.specs.Judge.{Judged, Verdict}
use Rattle.src_index.specs.Gather.{StandsAt, first_packet, segments_from}
use Rattle.src_index.specs.Loading.{IsIndexed}
use Rattle.src_index.proofs.GatherLemmas.{frame_with}
use Rattle.src_index.proofs.VerdictLemmas.{one_verdict}

-- a packet that stands there, as short as it is, with the key mark that is kept
pub record Standing (bytes : List ℕ) (marks : List PageMark) (place : Place) (key : Bool) (packet : List ℕ) : Type 0 where
  pub stands : StandsAt bytes marks place packet
  pub short : length packet ≤ most_bytes
  pub key_is : key ≡ is_key packet

-- that of a frame
pub stands_of : (bytes : List ℕ) (index : Index) (n : ℕ) (marks : List PageMark) (place : Place) (frame : Frame) → (indexed : IsIndexed bytes index) → n < frame_count index → get_or index.frames n frame ≡ frame → marks ≡ index.pages → place ≡ frame.place
    → Standing bytes marks place frame.key (get_or (frames_of indexed.packets) n [])
stands_of bytes index n marks place frame indexed low is pages there =
    let one = frame_with bytes index.pages 0 index.frames (frames_of indexed.packets) n frame indexed.index_of.frames low in
    record {
      stands = ap (λ ms. first_packet [] (segments_from bytes ms place)) pages ∙ ap (λ p. first_packet [] (segments_from bytes index.pages p)) (there ∙ ap (λ (f : Frame). f.place) (sym is)) ∙ one.1.stands;
      short = one.1.few;
      key_is = ap (λ (f : Frame). f.key) (sym is) ∙ one.1.key;
    }

-- what was gathered there is the packet
pub gathered : (bytes : List ℕ) (marks : List PageMark) (place : Place) (key : Bool) (packet got : List ℕ) → Standing bytes marks place key packet → StandsAt bytes marks place got → got ≡ packet
gathered bytes marks place key packet got standing h = let same : Some got ≡ Some packet = sym h ∙ standing.stands in cc

-- which carries the frame, whatever list of packets judging finds
pub carries : (bytes : List ℕ) (index : Index) (packets : List (List ℕ)) (n : ℕ) → (indexed : IsIndexed bytes index) → Judged bytes (Ok packets) → get_or (frames_of indexed.packets) n [] ≡ frame_at packets n
carries bytes index packets n indexed judged =
    let V : Verdict = Ok indexed.packets in let W : Verdict = Ok packets in let verdicts : V ≡ W = one_verdict bytes (Ok indexed.packets) (Ok packets) indexed.judged judged in
    let same : indexed.packets ≡ packets = cc in
    let number : 3 + n ≡ n + 3 = omega arith in
    ap (λ ps. get_or (drop 3 ps) n []) same ∙ get_or-drop 3 packets n [] ∙ ap (λ k. get_or packets k []) number
