-- Packets at their places stay there when pages come behind, and what is kept of one more segment or page is so. Loading cites
-- these.
use Rattle.std.proofs.Common.{◌≡◌, ℕ, zero, suc, get_or, ◌+◌, ◌-◌, ◌<◌, ◌≤◌, ◌==◌, Bool, true, false, ◌&&◌, List, [], ◌∷◌, ◌++◌, length, length-append, length-drop, length-take, take, drop, sum, All, Some, nat_lt, if◌then◌else◌, refl, ap, sym, subst, ◌∙◌, arith, inl, inr, append_assoc, lt-ltb, ne_eqb, eq-eqb}
use Rattle.std.specs.Str.{bytes_eq}
use Rattle.std.proofs.lemmas.Bool.{cases_lt, le-ltb}
use Rattle.std.proofs.lemmas.List.{append-nil, drop-drop, drop-append-le, take-append-le, drop_all, drop_more, drop-take, take-take, take-append-drop, get_or-take, take_all, nil_from_length}
use Rattle.std.proofs.lemmas.List.Elements.{All-append, All-cons, All-nil, All-head, All-tail}
use Rattle.std.proofs.lemmas.List.Sums.{sum_by-cons}
use Rattle.std.proofs.Math.Seq.{drop-append_seam, take-append_seam}
use Rattle.byteorder.specs.Endian.{little_number}
use Rattle.ogg_page.specs.Page.{Page, page_at_front, number_at, lacing_of, size_of}
use Rattle.ogg_page.proofs.PageLemmas.{page_is, bytes_of_page-is, front_whole}
use Rattle.ogg_page.specs.Packets.{Piece, segments, packets_from}
use Rattle.src_index.specs.Index.{PageMark, Place, Frame}
use Rattle.ogg_link.specs.Track.{headers}
use Rattle.src_index.specs.Checks.{most_bytes}
use Rattle.src_index.specs.Quantiser.{quantiser_behind, last_quantiser}
use Rattle.src_index.specs.Gather.{IsMarkOf, IsFrameOf, AreFramesOf, StandsAt, body_at, first_packet, segments_at, segments_along, segments_from}
use Rattle.src_index.specs.SamePage.{same_page, has_marks}
use Rattle.src_index.specs.Kept.{Kept, frame_from, with_header, with_frame, with_end, with_bytes, with_place, with_piece, with_pieces, begin_page, with_page}
use Rattle.src_index.specs.Keeping.{Keeps}

-- a packet that ends ends there, whatever follows
first_packet-more : (front : List ℕ) (xs ys : List Piece) (packet : List ℕ) → first_packet front xs ≡ Some packet → first_packet front (xs ++ ys) ≡ Some packet
unfolding first_packet
first_packet-more front [] ys packet h = cc
first_packet-more front (x ∷ xs) ys packet h =
    elim x.ends as (λ b. (if b then Some (front ++ x.bytes) else first_packet (front ++ x.bytes) xs) ≡ Some packet → (if b then Some (front ++ x.bytes) else first_packet (front ++ x.bytes) (xs ++ ys)) ≡ Some packet) [
      | true ↦ λ e. e
      | false ↦ λ e. first_packet-more (front ++ x.bytes) xs ys packet e
    ] h

-- segments of pages behind pages
segments_along-append : (bytes : List ℕ) (xs ys : List PageMark) → segments_along bytes (xs ++ ys) ≡ segments_along bytes xs ++ segments_along bytes ys
unfolding segments_along
segments_along-append bytes [] ys = refl
segments_along-append bytes (x ∷ xs) ys = ap (λ ps. segments_at bytes x ++ ps) (segments_along-append bytes xs ys) ∙ sym (append_assoc (segments_at bytes x) (segments_along bytes xs) (segments_along bytes ys))

segments_along-one : (bytes : List ℕ) (mark : PageMark) → segments_along bytes (mark ∷ []) ≡ segments_at bytes mark
unfolding segments_along
segments_along-one bytes mark = append-nil (segments_at bytes mark)

-- the segments from a place, where a page comes behind
segments_from-more : (bytes : List ℕ) (marks : List PageMark) (mark : PageMark) (place : Place) → place.page ≤ length marks → place.segment ≤ length (segments_along bytes (drop place.page marks))
    → segments_from bytes (marks ++ mark ∷ []) place ≡ segments_from bytes marks place ++ segments_at bytes mark
segments_from-more bytes marks mark place page segment =
    ap (λ ms. drop place.segment (segments_along bytes ms)) (drop-append-le place.page marks (mark ∷ []) page)
    ∙ ap (drop place.segment) (segments_along-append bytes (drop place.page marks) (mark ∷ []) ∙ ap (λ ps. segments_along bytes (drop place.page marks) ++ ps) (segments_along-one bytes mark))
    ∙ drop-append-le place.segment (segments_along bytes (drop place.page marks)) (segments_at bytes mark) segment

-- the segments from the start of the page that came
segments_from-last : (bytes : List ℕ) (marks : List PageMark) (mark : PageMark) (segment : ℕ)
    → segments_from bytes (marks ++ mark ∷ []) (record { page = length marks; segment = segment }) ≡ drop segment (segments_at bytes mark)
segments_from-last bytes marks mark segment =
    ap (λ ms. drop segment (segments_along bytes ms)) (drop-append_seam marks (mark ∷ [])) ∙ ap (drop segment) (segments_along-one bytes mark)

-- a packet that stands at a place has its place among the pages
nothing_behind : (front : List ℕ) (packet : List ℕ) → first_packet front [] ≡ Some packet → ⊥
unfolding first_packet
nothing_behind front packet h = cc

none_from : (bytes : List ℕ) (marks : List PageMark) (place : Place) → length marks < place.page → segments_from bytes marks place ≡ []
unfolding segments_along
none_from bytes marks place past = ap (λ ms. drop place.segment (segments_along bytes ms)) (drop_all place.page marks (omega (arith, past))) ∙ drop_all place.segment [] (omega arith)

stands_more : (bytes : List ℕ) (marks : List PageMark) (mark : PageMark) (place : Place) (packet : List ℕ) → StandsAt bytes marks place packet → StandsAt bytes (marks ++ mark ∷ []) place packet
stands_more bytes marks mark place packet h =
    elim (cases_lt place.segment (length (segments_along bytes (drop place.page marks)))) [
      | inl segment ↦ elim (cases_lt (length marks) place.page) [
        | inl past ↦ absurd (nothing_behind [] packet (ap (first_packet []) (sym (none_from bytes marks place past)) ∙ h))
        | inr page ↦ ap (first_packet []) (segments_from-more bytes marks mark place page (omega (arith, segment))) ∙ first_packet-more [] (segments_from bytes marks place) (segments_at bytes mark) packet h
      ]
      | inr past ↦ absurd (nothing_behind [] packet (ap (first_packet []) (sym (drop_all place.segment (segments_along bytes (drop place.page marks)) past)) ∙ h))
    ]

-- so do all frames
frames_more : (bytes : List ℕ) (marks : List PageMark) (mark : PageMark) (before : ℕ) (frames : List Frame) (packets : List (List ℕ))
    → AreFramesOf bytes marks before frames packets → AreFramesOf bytes (marks ++ mark ∷ []) before frames packets
unfolding AreFramesOf
frames_more bytes marks mark before [] [] h = tt
frames_more bytes marks mark before [] (p ∷ ps) h = h
frames_more bytes marks mark before (f ∷ fs) [] h = h
frames_more bytes marks mark before (f ∷ fs) (p ∷ ps) h = (
  record { stands = stands_more bytes marks mark f.place p h.0.stands; key = h.0.key; quantiser = h.0.quantiser; few = h.0.few },
  frames_more bytes marks mark (quantiser_behind before p) fs ps h.1,
)

-- one frame more
frames_snoc : (bytes : List ℕ) (marks : List PageMark) (before : ℕ) (frames : List Frame) (packets : List (List ℕ)) (frame : Frame) (packet : List ℕ)
    → AreFramesOf bytes marks before frames packets → IsFrameOf bytes marks (last_quantiser before packets) frame packet → AreFramesOf bytes marks before (frames ++ frame ∷ []) (packets ++ packet ∷ [])
unfolding AreFramesOf last_quantiser
frames_snoc bytes marks before [] [] frame packet h k = (k, tt)
frames_snoc bytes marks before [] (p ∷ ps) frame packet h k = absurd h
frames_snoc bytes marks before (f ∷ fs) [] frame packet h k = absurd h
frames_snoc bytes marks before (f ∷ fs) (p ∷ ps) frame packet h k = (h.0, frames_snoc bytes marks (quantiser_behind before p) fs ps frame packet h.1 k)

-- its quantiser is then the last
last_quantiser-snoc : (before : ℕ) (packets : List (List ℕ)) (packet : List ℕ) → last_quantiser before (packets ++ packet ∷ []) ≡ quantiser_behind (last_quantiser before packets) packet
unfolding last_quantiser
last_quantiser-snoc before [] packet = refl
last_quantiser-snoc before (p ∷ ps) packet = last_quantiser-snoc (quantiser_behind before p) ps packet

-- a packet that has ended leaves the pages, and nothing of the next
ended_marks : (kept : Kept) → (with_end kept).marks ≡ kept.marks
ended_marks kept = elim (nat_lt (length kept.headers) 3) as (λ b. (if b then with_header kept else with_frame kept).marks ≡ kept.marks) [ true ↦ refl | false ↦ refl ]

ended_begun : (kept : Kept) → (with_end kept).begun ≡ []
ended_begun kept = elim (nat_lt (length kept.headers) 3) as (λ b. (if b then with_header kept else with_frame kept).begun ≡ []) [ true ↦ refl | false ↦ refl ]

-- where the packet that was begun stands whole at its place, it is kept as the next header or frame
pub record Whole (bytes : List ℕ) (packets : List (List ℕ)) (kept : Kept) (next : Place) (todo : List Piece) : Type 0 where
  pub headers_are : kept.headers ≡ take headers packets
  pub marks_are : All (IsMarkOf bytes) kept.marks
  pub frames_are : AreFramesOf bytes kept.marks 0 kept.frames (drop headers packets)
  pub quantiser_is : kept.quantiser ≡ last_quantiser 0 (drop headers packets)
  pub stands : StandsAt bytes kept.marks kept.place kept.begun
  pub few : length kept.begun ≤ most_bytes
  pub next_is : segments_from bytes kept.marks next ≡ todo
  pub page_in : next.page ≤ length kept.marks
  pub segment_in : next.segment ≤ length (segments_along bytes (drop next.page kept.marks))

next_goes : (xs todo more : List Piece) → xs ≡ todo → first_packet [] (xs ++ more) ≡ first_packet [] (todo ++ more)
next_goes xs todo more e = ap (λ ps. first_packet [] (ps ++ more)) e

header_ends : (bytes : List ℕ) (packets : List (List ℕ)) (kept : Kept) (next : Place) (todo : List Piece) → Whole bytes packets kept next todo → length packets < 3
    → Keeps bytes (packets ++ kept.begun ∷ []) (with_place next (with_header kept)) todo
header_ends bytes packets kept next todo h few =
    let short : length packets ≤ 3 = omega (arith, few) in
    let longer : length (packets ++ kept.begun ∷ []) ≤ 3 = omega (arith, few, length-append packets (kept.begun ∷ [])) in
    let none : drop 3 packets ≡ drop 3 (packets ++ kept.begun ∷ []) = drop_all 3 packets short ∙ sym (drop_all 3 (packets ++ kept.begun ∷ []) longer) in
    record {
      headers_are = ap (λ hs. hs ++ kept.begun ∷ []) (h.headers_are ∙ take_all 3 packets short) ∙ sym (take_all 3 (packets ++ kept.begun ∷ []) longer);
      marks_are = h.marks_are;
      frames_are = subst (AreFramesOf bytes kept.marks 0 kept.frames) none h.frames_are;
      quantiser_is = h.quantiser_is ∙ ap (last_quantiser 0) none;
      page_in = h.page_in;
      segment_in = h.segment_in;
      goes_on = λ more. next_goes (segments_from bytes kept.marks next) todo more h.next_is;
    }

frame_ends : (bytes : List ℕ) (packets : List (List ℕ)) (kept : Kept) (next : Place) (todo : List Piece) → Whole bytes packets kept next todo → 3 ≤ length packets
    → Keeps bytes (packets ++ kept.begun ∷ []) (with_place next (with_frame kept)) todo
frame_ends bytes packets kept next todo h many =
    let frames : drop 3 packets ++ kept.begun ∷ [] ≡ drop 3 (packets ++ kept.begun ∷ []) = sym (drop-append-le 3 packets (kept.begun ∷ []) many) in
    let quantiser : quantiser_behind kept.quantiser kept.begun ≡ quantiser_behind (last_quantiser 0 (drop 3 packets)) kept.begun = ap (λ q. quantiser_behind q kept.begun) h.quantiser_is in
    record {
      headers_are = h.headers_are ∙ sym (take-append-le 3 packets (kept.begun ∷ []) many);
      marks_are = h.marks_are;
      frames_are = subst (AreFramesOf bytes kept.marks 0 (kept.frames ++ frame_from kept ∷ [])) frames
          (frames_snoc bytes kept.marks 0 kept.frames (drop 3 packets) (frame_from kept) kept.begun h.frames_are (record { stands = h.stands; key = refl; quantiser = quantiser; few = h.few }));
      quantiser_is = quantiser ∙ sym (last_quantiser-snoc 0 (drop 3 packets) kept.begun) ∙ ap (last_quantiser 0) frames;
      page_in = h.page_in;
      segment_in = h.segment_in;
      goes_on = λ more. next_goes (segments_from bytes kept.marks next) todo more h.next_is;
    }

packet_ends : (bytes : List ℕ) (packets : List (List ℕ)) (kept : Kept) (next : Place) (todo : List Piece) → Whole bytes packets kept next todo
    → Keeps bytes (packets ++ kept.begun ∷ []) (with_place next (with_end kept)) todo
packet_ends bytes packets kept next todo h =
    let P : Bool → Type 0 = λ b. Keeps bytes (packets ++ kept.begun ∷ []) (with_place next (if b then with_header kept else with_frame kept)) todo in
    elim (cases_lt (length kept.headers) 3) [
      | inl few ↦ subst P (sym (lt-ltb (length kept.headers) 3 few)) (header_ends bytes packets kept next todo h (omega (arith, few, ap length h.headers_are, length-take 3 packets)))
      | inr many ↦ subst P (sym (le-ltb (length kept.headers) 3 many)) (frame_ends bytes packets kept next todo h (omega (arith, many, ap length h.headers_are, length-take 3 packets)))
    ]

-- more bytes of the packet that was begun, and the last of them
more_bytes : (bytes : List ℕ) (packets : List (List ℕ)) (kept : Kept) (more : List ℕ) (todo : List Piece) → Keeps bytes packets kept (record { bytes = more; ends = false } ∷ todo) → Keeps bytes packets (with_bytes more kept) todo
unfolding first_packet
more_bytes bytes packets kept more todo k = record {
  headers_are = k.headers_are;
  marks_are = k.marks_are;
  frames_are = k.frames_are;
  quantiser_is = k.quantiser_is;
  page_in = k.page_in;
  segment_in = k.segment_in;
  goes_on = k.goes_on;
}

whole_stands : (bytes : List ℕ) (packets : List (List ℕ)) (kept : Kept) (last : List ℕ) (todo : List Piece) → Keeps bytes packets kept (record { bytes = last; ends = true } ∷ todo)
    → StandsAt bytes kept.marks kept.place (kept.begun ++ last)
unfolding first_packet
whole_stands bytes packets kept last todo k =
    ap (first_packet []) (sym (append-nil (segments_from bytes kept.marks kept.place))) ∙ k.goes_on []

-- the segments of a page, from one on
pub pieces_keep : (bytes : List ℕ) (before : List PageMark) (mark : PageMark) (i : ℕ) (packets : List (List ℕ)) (kept : Kept) (todo : List Piece)
    → kept.marks ≡ before ++ mark ∷ [] → drop i (segments_at bytes mark) ≡ todo → i + length todo ≡ length (segments_at bytes mark) → All (λ packet. length packet ≤ most_bytes) (packets_from kept.begun todo)
    → Keeps bytes packets kept todo → Keeps bytes (packets ++ packets_from kept.begun todo) (with_pieces (length before) i kept todo) []
unfolding packets_from with_pieces
pieces_keep bytes before mark i packets kept [] marks here all few h = subst (λ ps. Keeps bytes ps kept []) (sym (append-nil packets)) h
pieces_keep bytes before mark i packets kept (piece ∷ todo) marks here all few h =
    let next : Place = record { page = length before; segment = i + 1 } in
    let rest : drop (i + 1) (segments_at bytes mark) ≡ todo = sym (drop-drop 1 i (segments_at bytes mark)) ∙ ap (drop 1) here in
    let next_is : segments_from bytes kept.marks next ≡ todo = ap (λ ms. segments_from bytes ms next) marks ∙ segments_from-last bytes before mark (i + 1) ∙ rest in
    let along : segments_along bytes (drop (length before) kept.marks) ≡ segments_at bytes mark =
    ap (λ ms. segments_along bytes (drop (length before) ms)) marks ∙ ap (segments_along bytes) (drop-append_seam before (mark ∷ [])) ∙ segments_along-one bytes mark in
    let page_in : length before ≤ length kept.marks = omega (arith, ap length marks, length-append before (mark ∷ [])) in
    let segment_in : i + 1 ≤ length (segments_along bytes (drop (length before) kept.marks)) = omega (arith, all, ap length along) in
    elim piece.ends as (λ (e : Bool). All (λ packet. length packet ≤ most_bytes) (packets_from kept.begun (record { bytes = piece.bytes; ends = e } ∷ todo)) → Keeps bytes packets kept (record { bytes = piece.bytes; ends = e } ∷ todo)
    → Keeps bytes (packets ++ packets_from kept.begun (record { bytes = piece.bytes; ends = e } ∷ todo)) (with_pieces (length before) (i + 1) (with_piece next (record { bytes = piece.bytes; ends = e }) kept) todo) []) [
      | true ↦ λ all_few k.
          let now : Kept = with_bytes piece.bytes kept in
          let packet : List ℕ = kept.begun ++ piece.bytes in
          let whole : Whole bytes packets now next todo = record {
            headers_are = k.headers_are;
            marks_are = k.marks_are;
            frames_are = k.frames_are;
            quantiser_is = k.quantiser_is;
            stands = whole_stands bytes packets kept piece.bytes todo k;
            few = All-head (λ (p : List ℕ). length p ≤ most_bytes) packet (packets_from [] todo) all_few;
            next_is = next_is;
            page_in = page_in;
            segment_in = segment_in;
          } in
          let ended : Kept = with_place next (with_end now) in
          let none : ended.begun ≡ [] = ended_begun now in
          let later = All-tail (λ (p : List ℕ). length p ≤ most_bytes) packet (packets_from [] todo) all_few in
          let rest_keeps = pieces_keep bytes before mark (i + 1) (packets ++ packet ∷ []) ended todo (ended_marks now ∙ marks) rest (omega (arith, all))
          (subst (λ f. All (λ (p : List ℕ). length p ≤ most_bytes) (packets_from f todo)) (sym none) later) (packet_ends bytes packets now next todo whole) in
          subst (λ ps. Keeps bytes ps (with_pieces (length before) (i + 1) ended todo) []) (ap (λ f. (packets ++ packet ∷ []) ++ packets_from f todo) none ∙ append_assoc packets (packet ∷ []) (packets_from [] todo)) rest_keeps
      | false ↦ λ all_few k. pieces_keep bytes before mark (i + 1) packets (with_bytes piece.bytes kept) todo marks rest (omega (arith, all)) all_few (more_bytes bytes packets kept piece.bytes todo k)
    ] few h

-- a page begins
begin_keeps : (bytes : List ℕ) (packets : List (List ℕ)) (kept : Kept) (mark : PageMark) → Keeps bytes packets kept [] → IsMarkOf bytes mark → Keeps bytes packets (begin_page mark kept) (segments_at bytes mark)
begin_keeps bytes packets kept mark k marked =
    let marks : List PageMark = kept.marks ++ mark ∷ [] in
    let first : Place = record { page = length kept.marks; segment = 0 } in
    let pages : All (IsMarkOf bytes) marks = All-append (IsMarkOf bytes) kept.marks (mark ∷ []) k.marks_are (All-cons (IsMarkOf bytes) mark [] marked (All-nil (IsMarkOf bytes))) in
    let longer : length kept.marks ≤ length marks = omega (arith, length-append kept.marks (mark ∷ [])) in
    let P : Bool → Type 0 = λ b. Keeps bytes packets (record kept { marks = marks; place = if b then first else kept.place }) (segments_at bytes mark) in
    elim (cases_lt 0 (length kept.begun)) [
      | inl some ↦ subst P (sym (ne_eqb (length kept.begun) 0 (λ e. absurd (omega (arith, e, some))))) (record {
        headers_are = k.headers_are;
        marks_are = pages;
        frames_are = frames_more bytes kept.marks mark 0 kept.frames (drop headers packets) k.frames_are;
        quantiser_is = k.quantiser_is;
        page_in = omega (arith, k.page_in, longer);
        segment_in = omega (
          arith,
          k.segment_in,
          ap length (ap (segments_along bytes) (drop-append-le kept.place.page kept.marks (mark ∷ []) k.page_in) ∙ segments_along-append bytes (drop kept.place.page kept.marks) (mark ∷ [])),
          length-append (segments_along bytes (drop kept.place.page kept.marks)) (segments_along bytes (mark ∷ [])),
        );
        goes_on = λ more.
            ap (λ ps. first_packet [] (ps ++ more)) (segments_from-more bytes kept.marks mark kept.place k.page_in k.segment_in)
            ∙ ap (first_packet []) (append_assoc (segments_from bytes kept.marks kept.place) (segments_at bytes mark) more) ∙ k.goes_on (segments_at bytes mark ++ more);
      })
      | inr none ↦
          let begun : kept.begun ≡ [] = nil_from_length kept.begun (omega (arith, none)) in
          subst P (sym (eq-eqb (length kept.begun) 0 (omega (arith, none)))) (record {
            headers_are = k.headers_are;
            marks_are = pages;
            frames_are = frames_more bytes kept.marks mark 0 kept.frames (drop headers packets) k.frames_are;
            quantiser_is = k.quantiser_is;
            page_in = longer;
            segment_in = omega arith;
            goes_on = λ more. ap (λ ps. first_packet [] (ps ++ more)) (segments_from-last bytes kept.marks mark 0) ∙ ap (λ f. first_packet f (segments_at bytes mark ++ more)) (sym begun);
          })
    ]

-- a page more
pub page_keeps : (bytes : List ℕ) (packets : List (List ℕ)) (kept : Kept) (mark : PageMark) → Keeps bytes packets kept [] → IsMarkOf bytes mark
    → All (λ packet. length packet ≤ most_bytes) (packets_from kept.begun (segments_at bytes mark))
    → Keeps bytes (packets ++ packets_from kept.begun (segments_at bytes mark)) (with_page mark (segments_at bytes mark) kept) []
page_keeps bytes packets kept mark k marked few =
    pieces_keep bytes kept.marks mark 0 packets (begin_page mark kept) (segments_at bytes mark) refl refl (omega arith) few (begin_keeps bytes packets kept mark k marked)

-- the frame with a number has the packet with that number
pub frame_with : (bytes : List ℕ) (marks : List PageMark) (before : ℕ) (frames : List Frame) (packets : List (List ℕ)) (n : ℕ) (none : Frame) → AreFramesOf bytes marks before frames packets → n < length frames
    → (earlier : ℕ) × IsFrameOf bytes marks earlier (get_or frames n none) (get_or packets n [])
unfolding AreFramesOf
frame_with bytes marks before [] packets n none h low = absurd (omega arith)
frame_with bytes marks before (f ∷ fs) [] n none h low = absurd h
frame_with bytes marks before (f ∷ fs) (p ∷ ps) zero none h low = (before, h.0)
frame_with bytes marks before (f ∷ fs) (p ∷ ps) (suc n) none h low = frame_with bytes marks (quantiser_behind before p) fs ps n none h.1 (omega (arith, low))

-- bytes dropped from two lists
drop_both : {A : Type 0} (n : ℕ) (xs ys : List A) → drop n (xs ++ ys) ≡ drop n xs ++ drop (n - length xs) ys
drop_both n xs ys = elim (cases_lt (length xs) n) [
  | inl past ↦
      let split : n ≡ length xs + (n - length xs) = omega (arith, past) in
      ap (λ k. drop k (xs ++ ys)) split ∙ sym (drop-drop (n - length xs) (length xs) (xs ++ ys)) ∙ ap (drop (n - length xs)) (drop-append_seam xs ys)
      ∙ ap (λ zs. zs ++ drop (n - length xs) ys) (sym (drop_all n xs (omega (arith, past))))
  | inr low ↦ let none : 0 ≡ n - length xs = omega (arith, low) in drop-append-le n xs ys low ∙ ap (λ k. drop n xs ++ drop k ys) none
]

-- the segments from a place, by the page that stands there
pub segments_there : (bytes : List ℕ) (marks : List PageMark) (number first : ℕ) (none : PageMark) → number < length marks
    → segments_from bytes marks (record { page = number; segment = first })
    ≡ drop first (segments_at bytes (get_or marks number none)) ++ segments_from bytes marks (record { page = number + 1; segment = first - length (segments_at bytes (get_or marks number none)) })
unfolding segments_along
segments_there bytes marks number first none low =
    ap (λ ms. drop first (segments_along bytes ms)) (drop_more marks number none low) ∙ drop_both first (segments_at bytes (get_or marks number none)) (segments_along bytes (drop (number + 1) marks))

-- how many segments a page has
pub segments_count : (lacing body : List ℕ) → length (segments lacing body) ≡ length lacing
unfolding segments
segments_count [] body = refl
segments_count (n ∷ lacing) body = omega (arith, segments_count lacing (drop n body))

-- behind the last page there are none
pub segments_past : (bytes : List ℕ) (marks : List PageMark) (place : Place) → length marks ≤ place.page → segments_from bytes marks place ≡ []
unfolding segments_along
segments_past bytes marks place past = ap (λ ms. drop place.segment (segments_along bytes ms)) (drop_all place.page marks past) ∙ drop_all place.segment [] (omega arith)

-- so no packet ends there
pub none_past : (bytes : List ℕ) (marks : List PageMark) (place : Place) (front packet : List ℕ) → length marks ≤ place.page → first_packet front (segments_from bytes marks place) ≡ Some packet → ⊥
none_past bytes marks place front packet past h = nothing_behind front packet (ap (first_packet front) (sym (segments_past bytes marks place past)) ∙ h)

-- a packet that begins so is as long at least
pub no_shorter : (front : List ℕ) (pieces : List Piece) (packet : List ℕ) → first_packet front pieces ≡ Some packet → length front ≤ length packet
unfolding first_packet
no_shorter front [] packet h = absurd (cc)
no_shorter front (piece ∷ pieces) packet h = elim piece.ends as (λ b. (if b then Some (front ++ piece.bytes) else first_packet (front ++ piece.bytes) pieces) ≡ Some packet → length front ≤ length packet) [
  | true ↦ λ e. let same : front ++ piece.bytes ≡ packet = cc in omega (arith, ap length same, length-append front piece.bytes)
  | false ↦ λ e. omega (arith, no_shorter (front ++ piece.bytes) pieces packet e, length-append front piece.bytes)
] h

-- a list of bytes is the same as itself
bytes_same : (xs : List ℕ) → bytes_eq xs xs ≡ true
bytes_same [] = refl
bytes_same (x ∷ xs) = ap (λ b. b && bytes_eq xs xs) (eq-eqb x x refl) ∙ bytes_same xs

-- a page that was read again has the body that its mark tells
pub body_again : (bytes : List ℕ) (mark : PageMark) → drop (27 + length mark.lacing) (take (27 + length mark.lacing + sum mark.lacing) (drop mark.at bytes)) ≡ take (sum mark.lacing) (drop (mark.at + 27 + length mark.lacing) bytes)
body_again bytes mark =
    let there : mark.at + (27 + length mark.lacing) ≡ mark.at + 27 + length mark.lacing = omega arith in
    drop-take (27 + length mark.lacing) (sum mark.lacing) (drop mark.at bytes)
    ∙ ap (take (sum mark.lacing)) (drop-drop (27 + length mark.lacing) mark.at bytes ∙ ap (λ n. drop n bytes) there)

-- a page that stands at a byte lies inside the file, and its bytes read again are the same page
pub page_inside : (bytes : List ℕ) (mark : PageMark) → IsMarkOf bytes mark → mark.at + (27 + length mark.lacing + sum mark.lacing) ≤ length bytes
page_inside bytes mark h =
    let is = page_is (drop mark.at bytes) h.page h.stands in
    let fits = bytes_of_page-is (drop mark.at bytes) h.page h.stands in
    let lacing : lacing_of (drop mark.at bytes) ≡ mark.lacing = ap (λ (p : Page). p.lacing) is.2 ∙ h.lacing in
    let count : length mark.lacing ≡ get_or (drop mark.at bytes) 26 0 = omega (arith, ap length lacing, length-take (get_or (drop mark.at bytes) 26 0) (drop 27 (drop mark.at bytes)), length-drop 27 (drop mark.at bytes), is.0, is.1) in
    let total : sum (lacing_of (drop mark.at bytes)) ≡ sum mark.lacing = ap sum lacing in
    omega (arith, is.0, is.1, count, total, length-drop mark.at bytes)

pub same_again : (bytes : List ℕ) (mark : PageMark) → IsMarkOf bytes mark → same_page (take (27 + length mark.lacing + sum mark.lacing) (drop mark.at bytes)) mark.checksum mark.lacing ≡ true
same_again bytes mark h =
    let front = drop mark.at bytes in
    let size = 27 + length mark.lacing + sum mark.lacing in
    let is = page_is front h.page h.stands in
    let lacing : lacing_of front ≡ mark.lacing = ap (λ (p : Page). p.lacing) is.2 ∙ h.lacing in
    let count : length mark.lacing ≡ get_or front 26 0 = omega (arith, ap length lacing, length-take (get_or front 26 0) (drop 27 front), length-drop 27 front, is.0, is.1) in
    let total : sum (lacing_of front) ≡ sum mark.lacing = ap sum lacing in
    let whole : size_of front ≡ size = omega (arith, count, total) in
    let split : front ≡ take size front ++ drop size front = sym (take-append-drop size front) in
    let long : length (take size front) ≡ size = omega (arith, length-take size front, is.1, whole) in
    let counted : get_or (take size front) 26 0 ≡ get_or front 26 0 = get_or-take size front 26 0 (omega arith) in
    let laced : lacing_of (take size front) ≡ lacing_of front =
    ap (λ n. take n (drop 27 (take size front))) counted
    ∙ ap (take (get_or front 26 0)) (taken front)
    ∙ take-take (get_or front 26 0) (length mark.lacing + sum mark.lacing) (drop 27 front) (omega (arith, count)) in
    let sized : size_of (take size front) ≡ size = omega (arith, counted, ap sum laced, whole, total, count) in
    let same : page_at_front (take size front) ≡ page_at_front front =
    sym (front_whole (take size front) (drop size front) (omega (arith, long)) (omega (arith, sized, long))) ∙ ap page_at_front (sym split) in
    let field : number_at 4 22 (take size front) ≡ mark.checksum =
    ap (λ xs. little_number 4 (take 4 xs)) (taken_at front)
    ∙ ap (little_number 4) (take-take 4 (5 + length mark.lacing + sum mark.lacing) (drop 22 front) (omega arith)) ∙ h.checksum in
    ap (λ r. has_marks r (number_at 4 22 (take size front)) mark.checksum mark.lacing) (same ∙ h.stands)
    ∙ ap (λ n. (n == mark.checksum) && bytes_eq h.page.lacing mark.lacing) field
    ∙ ap (λ ns. (mark.checksum == mark.checksum) && bytes_eq ns mark.lacing) h.lacing
    ∙ ap (λ b. b && bytes_eq mark.lacing mark.lacing) (eq-eqb mark.checksum mark.checksum refl)
    ∙ bytes_same mark.lacing
  where
    taken : (xs : List ℕ) → drop 27 (take (27 + length mark.lacing + sum mark.lacing) xs) ≡ take (length mark.lacing + sum mark.lacing) (drop 27 xs)
    taken xs = let e : 27 + length mark.lacing + sum mark.lacing ≡ 27 + (length mark.lacing + sum mark.lacing) = omega arith in ap (λ n. drop 27 (take n xs)) e ∙ drop-take 27 (length mark.lacing + sum mark.lacing) xs

    taken_at : (xs : List ℕ) → drop 22 (take (27 + length mark.lacing + sum mark.lacing) xs) ≡ take (5 + length mark.lacing + sum mark.lacing) (drop 22 xs)
    taken_at xs = let e : 27 + length mark.lacing + sum mark.lacing ≡ 22 + (5 + length mark.lacing + sum mark.lacing) = omega arith in ap (λ n. drop 22 (take n xs)) e ∙ drop-take 22 (5 + length mark.lacing + sum mark.lacing) xs

-- one page of the loop that gathers a packet
pub gather_on : (bytes : List ℕ) (marks : List PageMark) (number first : ℕ) (none : PageMark) (front body lacing : List ℕ) → number < length marks → body ≡ body_at bytes (get_or marks number none) → (get_or marks number none).lacing ≡ lacing
    → first_packet front (segments_from bytes marks (record { page = number; segment = first }))
    ≡ first_packet front (drop first (segments lacing body) ++ segments_from bytes marks (record { page = number + 1; segment = first - length (get_or marks number none).lacing }))
gather_on bytes marks number first none front body lacing low e laced =
    let mark = get_or marks number none in
    ap (first_packet front) (
    segments_there bytes marks number first none low
    ∙ ap (λ n. drop first (segments_at bytes mark) ++ segments_from bytes marks (record { page = number + 1; segment = first - n })) (segments_count mark.lacing (body_at bytes mark))
    ∙ ap (λ b. drop first (segments mark.lacing b) ++ segments_from bytes marks (record { page = number + 1; segment = first - length mark.lacing })) (sym e)
    ∙ ap (λ ns. drop first (segments ns body) ++ segments_from bytes marks (record { page = number + 1; segment = first - length mark.lacing })) laced
    )

no_shorter_than : (front bytes : List ℕ) (ends : Bool) (pieces : List Piece) (packet : List ℕ) → first_packet front (record { bytes = bytes; ends = ends } ∷ pieces) ≡ Some packet → length front + length bytes ≤ length packet
unfolding first_packet
no_shorter_than front bytes true pieces packet h = let same : front ++ bytes ≡ packet = cc in omega (arith, ap length same, length-append front bytes)
no_shorter_than front bytes false pieces packet h = omega (arith, no_shorter (front ++ bytes) pieces packet h, length-append front bytes)

-- the segments from one on, by the next
seg_next : (lacing rest : List ℕ) (i size : ℕ) → i < length lacing → size ≡ get_or lacing i 0 → segments (drop i lacing) rest ≡ record { bytes = take size rest; ends = nat_lt size 255 } ∷ segments (drop (i + 1) lacing) (drop size rest)
unfolding segments
seg_next lacing rest i size low e =
    ap (λ ns. segments ns rest) (drop_more lacing i 0 low)
    ∙ ap (λ n. record { bytes = take n rest; ends = nat_lt n 255 } ∷ segments (drop (i + 1) lacing) (drop n rest)) (sym e)

-- one that is passed
pub segment_passed : (lacing rest others : List ℕ) (first i size : ℕ) → i < length lacing → i < first → size ≡ get_or lacing i 0 → others ≡ drop size rest
    → drop (first - (i + 1)) (segments (drop (i + 1) lacing) others) ≡ drop (first - i) (segments (drop i lacing) rest)
segment_passed lacing rest others first i size low before e cut =
    let later : first - i ≡ suc (first - (i + 1)) = omega (arith, before) in
    ap (λ xs. drop (first - (i + 1)) (segments (drop (i + 1) lacing) xs)) cut
    ∙ sym (ap (λ k. drop k (segments (drop i lacing) rest)) later ∙ ap (drop (suc (first - (i + 1)))) (seg_next lacing rest i size low e))

segment_here : (lacing rest others : List ℕ) (first i size : ℕ) → i < length lacing → first ≤ i → size ≡ get_or lacing i 0 → others ≡ drop size rest
    → drop (first - i) (segments (drop i lacing) rest) ≡ record { bytes = take size rest; ends = nat_lt size 255 } ∷ drop (first - (i + 1)) (segments (drop (i + 1) lacing) others)
segment_here lacing rest others first i size low before e cut =
    let now : first - i ≡ 0 = omega (arith, before) in
    let later : 0 ≡ first - (i + 1) = omega (arith, before) in
    ap (λ k. drop k (segments (drop i lacing) rest)) now
    ∙ seg_next lacing rest i size low e
    ∙ ap (λ xs. record { bytes = take size rest; ends = nat_lt size 255 } ∷ segments (drop (i + 1) lacing) xs) (sym cut)
    ∙ ap (λ k. record { bytes = take size rest; ends = nat_lt size 255 } ∷ drop k (segments (drop (i + 1) lacing) others)) later

-- one behind which its packet goes on
pub segment_goes_on : (lacing rest others bytes front now : List ℕ) (first i size : ℕ) (more : List Piece) → i < length lacing → first ≤ i → size ≡ get_or lacing i 0 → others ≡ drop size rest → bytes ≡ take size rest → now ≡ front ++ bytes → 255 ≤ size
    → first_packet now (drop (first - (i + 1)) (segments (drop (i + 1) lacing) others) ++ more) ≡ first_packet front (drop (first - i) (segments (drop i lacing) rest) ++ more)
unfolding first_packet
segment_goes_on lacing rest others bytes front now first i size more low before e cut taken grown full =
    let left = drop (first - (i + 1)) (segments (drop (i + 1) lacing) others) ++ more in
    ap (λ f. first_packet f left) (grown ∙ ap (λ b. front ++ b) taken)
    ∙ ap (λ b. if b then Some (front ++ take size rest) else first_packet (front ++ take size rest) left) (sym (le-ltb size 255 full))
    ∙ ap (λ ps. first_packet front (ps ++ more)) (sym (segment_here lacing rest others first i size low before e cut))

-- one with which its packet ends
pub segment_ends : (lacing rest others bytes front now : List ℕ) (first i size : ℕ) (more : List Piece) → i < length lacing → first ≤ i → size ≡ get_or lacing i 0 → others ≡ drop size rest → bytes ≡ take size rest → now ≡ front ++ bytes → size < 255
    → first_packet front (drop (first - i) (segments (drop i lacing) rest) ++ more) ≡ Some now
unfolding first_packet
segment_ends lacing rest others bytes front now first i size more low before e cut taken grown short =
    let left = drop (first - (i + 1)) (segments (drop (i + 1) lacing) others) ++ more in
    ap (λ ps. first_packet front (ps ++ more)) (segment_here lacing rest others first i size low before e cut)
    ∙ ap (λ b. if b then Some (front ++ take size rest) else first_packet (front ++ take size rest) left) (lt-ltb size 255 short)
    ∙ ap (λ b. Some (front ++ b)) (sym taken) ∙ ap (λ f. Some f) (sym grown)

-- a packet to which a segment belongs is as long as it and the bytes before it
pub segment_long : (lacing rest others bytes front packet : List ℕ) (first i size : ℕ) (more : List Piece) → i < length lacing → first ≤ i → size ≡ get_or lacing i 0 → others ≡ drop size rest → bytes ≡ take size rest
    → first_packet front (drop (first - i) (segments (drop i lacing) rest) ++ more) ≡ Some packet → length front + length bytes ≤ length packet
segment_long lacing rest others bytes front packet first i size more low before e cut taken h =
    let here = sym (ap (λ ps. first_packet front (ps ++ more)) (segment_here lacing rest others first i size low before e cut)) ∙ h in
    omega (arith, no_shorter_than front (take size rest) (nat_lt size 255) (drop (first - (i + 1)) (segments (drop (i + 1) lacing) others) ++ more) packet here, ap length taken)

-- how many bytes are left
pub segment_sizes : (lacing rest others : List ℕ) (i size : ℕ) → i < length lacing → size ≡ get_or lacing i 0 → others ≡ drop size rest → sum (drop i lacing) ≡ length rest → sum (drop (i + 1) lacing) ≡ length others
segment_sizes lacing rest others i size low e cut all =
    omega (arith, ap sum (drop_more lacing i 0 low), sum_by-cons (λ x. x) (get_or lacing i 0) (drop (i + 1) lacing), e, all, ap length cut, length-drop size rest)

-- a list that was written over as a whole is what was written
pub written_whole : (n : ℕ) (piece back : List ℕ) → n ≡ length piece → take n (piece ++ back) ≡ piece
written_whole n piece back e = ap (λ k. take k (piece ++ back)) e ∙ take-append_seam piece back

-- behind the last lacing value no segment is left
pub segments_done : (lacing rest : List ℕ) (first i : ℕ) → length lacing ≤ i → drop (first - i) (segments (drop i lacing) rest) ≡ []
unfolding segments
segments_done lacing rest first i past = ap (λ ns. drop (first - i) (segments ns rest)) (drop_all i lacing past) ∙ drop_all (first - i) [] (omega arith)
