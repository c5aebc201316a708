-- What is still to come, step by step, and the room that it takes. The calls of a Mux cite these.
use Rattle.std.proofs.Common.{◌≡◌, ℕ, ◌+◌, ◌/◌, ◌≤◌, ◌<◌, suc, zero, Bool, true, false, ◌||◌, List, [], ◌∷◌, ◌++◌, length, length-append, nat_lt, Some, None, Option, refl, ap, arith, ◌∙◌, sym, append_assoc, append-nil, if◌then◌else◌, ◌==◌, ne_eqb, lt-ltb, ltb-true, eq-eqb, ◌⊎◌, inl, inr}
use Rattle.std.proofs.lemmas.Bool.{eqb-true}
use Rattle.std.proofs.Math.Dec.{leb-zero}
use Rattle.ogg_page.specs.Page.{bytes_of_page}
use Rattle.ogg_page.specs.Written.{written_page, written_pages}
use Rattle.ogg_link.specs.Track.{is_key, granule_of}
use Rattle.ogg_mux.specs.OutputPages.{Held, Segment, Stream, first_page, next_page, grown, page_with, last_pages, pages_list, pages_from, cut_at_255, packet_segments, header_segments, frame_segments, paged_list, paged, reaches}
use Rattle.ogg_mux.specs.Muxing.{Muxing, rest_of, least_body}
use Rattle.ogg_mux.specs.Room.{IsRoomy, spills, most_written}
use Rattle.ogg_page.proofs.WrittenLemmas.{length-page_of}
use Rattle.ogg_mux.proofs.OutputLemmas.{pages_from-closed, pages_from-open, pages_from-none, pages_from-last}

pub next_page-open : (held : Held) → (next_page held).closed ≡ false
unfolding next_page
next_page-open held = refl

pub next_page-empty : (held : Held) → ((next_page held).lacing ≡ []) × ((next_page held).body ≡ [])
unfolding next_page
next_page-empty held = (refl, refl)

-- a closed page is written, and the segment stands on the next one
pub turned : (serial last : ℕ) (held : Held) (old : List ℕ) (s : Segment) (ss : List Segment) → held.closed ≡ true
    → (old ++ written_page (page_with serial 0 held)) ++ pages_from serial last (next_page held) (s ∷ ss) ≡ old ++ pages_from serial last held (s ∷ ss)
turned serial last held old s ss shut = append_assoc old (written_page (page_with serial 0 held)) (pages_from serial last (next_page held) (s ∷ ss)) ∙ ap (λ b. old ++ b) (sym (pages_from-closed serial last held s ss shut))

-- how many bytes a page is written in
pub length-written : (serial flags : ℕ) (held : Held) → length (written_page (page_with serial flags held)) ≡ bytes_of_page (page_with serial flags held)
length-written serial flags held = length-page_of (held.flags + flags) held.granule serial held.number held.lacing held.body

-- a segment on an open page
pub added : (serial last : ℕ) (held : Held) (ready old : List ℕ) (from : Held) (s : Segment) (more : List Segment) → held.closed ≡ false
    → ready ++ pages_from serial last held (s ∷ more) ≡ old ++ pages_from serial last from (s ∷ more) → ready ++ pages_from serial last (grown held s) more ≡ old ++ pages_from serial last from (s ∷ more)
added serial last held ready old from s more clear same = ap (λ b. ready ++ b) (sym (pages_from-open serial last held s more clear)) ∙ same

or_true : (b c : Bool) → c ≡ true → b || c ≡ true
or_true true c e = refl
or_true false c e = e

-- a segment that closes any page
pub grown-shut : (held : Held) (bytes : List ℕ) (granule least : Option ℕ) → least ≡ Some 0 → (grown held (record { bytes = bytes; granule = granule; least = least })).closed ≡ true
unfolding grown
grown-shut held bytes granule least e = or_true (length (held.lacing ++ length bytes ∷ []) == 255) (reaches (length (held.body ++ bytes)) least) (ap (reaches (length (held.body ++ bytes))) e ∙ leb-zero (length (held.body ++ bytes)))

-- and there is one on the page
pub grown-there : (held : Held) (s : Segment) → 0 < length (grown held s).lacing
unfolding grown
grown-there held s = omega (arith, length-append held.lacing (length s.bytes ∷ []))

-- the sizes of a page with one more segment
pub grown-sizes : (held : Held) (s : Segment) → (length (grown held s).lacing ≡ length held.lacing + 1) × (length (grown held s).body ≡ length held.body + length s.bytes)
unfolding grown
grown-sizes held s = (omega (arith, length-append held.lacing (length s.bytes ∷ [])), length-append held.body s.bytes)

or_false : (b : Bool) → b || false ≡ true → b ≡ true
or_false true e = refl
or_false false e = e

-- a page that a segment of a packet that goes on closes is full
pub grown-full : (held : Held) (bytes : List ℕ) (granule least : Option ℕ) → least ≡ None → (grown held (record { bytes = bytes; granule = granule; least = least })).closed ≡ true → length held.lacing + 1 ≡ 255
unfolding grown
grown-full held bytes granule least none shut =
    let full = or_false (length (held.lacing ++ length bytes ∷ []) == 255) (ap (λ l. (length (held.lacing ++ length bytes ∷ []) == 255) || reaches (length (held.body ++ bytes)) l) (sym none) ∙ shut) in
    omega (arith, length-append held.lacing (length bytes ∷ []), eqb-true (length (held.lacing ++ length bytes ∷ [])) 255 full)

spills-shut : (held : Held) (n : ℕ) → held.closed ≡ true → spills held n ≡ true
spills-shut held n e = rw e refl

spills-full : (held : Held) (n : ℕ) → 255 < length held.lacing + n → spills held n ≡ true
spills-full held n h = or_true held.closed (nat_lt 255 (length held.lacing + n)) (lt-ltb 255 (length held.lacing + n) h)

spilt : (b : Bool) (n : ℕ) → b || nat_lt 255 n ≡ true → (b ≡ true) ⊎ (255 < n)
spilt true n e = inl refl
spilt false n e = inr (ltb-true 255 n e)

-- the room for a segment of a packet that goes on is taken from that of all
pub room-kept : (len len_new capacity capacity_new : ℕ) (held from : Held) (bytes : List ℕ) (granule least : Option ℕ) (n size : ℕ) → least ≡ None → capacity ≤ capacity_new
    → (from.closed ≡ false → (held ≡ from) × (len_new ≡ len)) → (from.closed ≡ true → (held.lacing ≡ []) × (held.body ≡ []) × (len_new ≡ len + 27 + length from.lacing + length from.body))
    → IsRoomy len capacity from (n + 1) (size + length bytes) → IsRoomy len_new capacity_new (grown held (record { bytes = bytes; granule = granule; least = least })) n size
room-kept len len_new capacity capacity_new held from bytes granule least n size none more kept turns room some spill = elim from.closed as (λ b. (b ≡ from.closed) → len_new + most_written (grown held (record { bytes = bytes; granule = granule; least = least })) n size ≤ capacity_new) [
  | true ↦ λ e.
      let t = turns (sym e) in
      omega (arith, sizes.0, sizes.1, ap length t.0, ap length t.1, t.2, more, room (omega arith) (spills-shut from (n + 1) (sym e)))
  | false ↦ λ e.
      let k = kept (sym e) in
      let same : length held.lacing ≡ length from.lacing = ap (λ h. length h.lacing) k.0 in
      let same_body : length held.body ≡ length from.body = ap (λ h. length h.body) k.0 in
      let full : 255 < length from.lacing + (n + 1) = elim (spilt (grown held segment).closed (length (grown held segment).lacing + n) spill) [
        | inl shut ↦ omega (arith, grown-full held bytes granule least none shut, some, same)
        | inr over ↦ omega (arith, sizes.0, over, same)
      ] in
      omega (arith, sizes.0, sizes.1, same, same_body, k.1, more, room (omega arith) (spills-full from (n + 1) full))
] refl
  where
    segment : Segment
    segment = record { bytes = bytes; granule = granule; least = least }

    sizes : (length (grown held segment).lacing ≡ length held.lacing + 1) × (length (grown held segment).body ≡ length held.body + length bytes)
    sizes = grown-sizes held segment

-- the last page is not there where it is empty
pub last-none : (serial flags : ℕ) (held : Held) (old : List ℕ) → length held.lacing ≡ 0 → old ≡ old ++ written_pages (last_pages serial flags held)
unfolding written_pages
last-none serial flags held old none = sym (ap (λ b. old ++ written_pages (if b then [] else page_with serial flags held ∷ [])) (eq-eqb (length held.lacing) 0 none) ∙ append-nil old)

pub last-one : (serial flags : ℕ) (held : Held) → 0 < length held.lacing → written_page (page_with serial flags held) ≡ written_pages (last_pages serial flags held)
unfolding written_pages
last-one serial flags held there = rw (ne_eqb (length held.lacing) 0 (λ e. absurd (omega (arith, e)))) (sym (append-nil (written_page (page_with serial flags held))))

-- how many bytes stand behind those that were ready
pub length-more : (serial flags : ℕ) (held : Held) (new old : List ℕ) → new ≡ old ++ written_page (page_with serial flags held) → length new ≡ length old + 27 + length held.lacing + length held.body
length-more serial flags held new old e = omega (arith, ap length e, length-append old (written_page (page_with serial flags held)), length-written serial flags held)

-- one packet less to come
pub packet_rest : (m : Muxing) (ready : List ℕ) (held : Held) (packet : List ℕ) (key : ℕ) (more : List (List ℕ)) → key ≡ (if is_key packet then m.frames else m.key)
    → ((last : ℕ) (ss : List Segment) → ready ++ pages_from m.serial last held ss ≡ m.ready ++ pages_from m.serial last m.held (packet_segments packet (granule_of m.base m.shift key m.frames) (Some least_body) ++ ss))
    → rest_of (record { serial = m.serial; shift = m.shift; base = m.base; frames = m.frames + 1; key = key; held = held; ready = ready; finished = m.finished }) more ≡ rest_of m (packet ∷ more)
unfolding rest_of frame_segments
packet_rest m ready held packet key more is all = all 4 (frame_segments least_body m.base m.shift (m.frames + 1) key more) ∙ rw is refl

-- no packet to come
pub finish_rest : (m : Muxing) → m.ready ++ written_pages (last_pages m.serial 4 m.held) ≡ rest_of m []
unfolding rest_of frame_segments pages_from pages_list
finish_rest m = refl

-- a packet has a segment
pub some_segment : (n : ℕ) (packet : List ℕ) (granule : ℕ) (least : Option ℕ) (more : List Segment) → (s : Segment) × (ss : List Segment) × (cut_at_255 n packet granule least ++ more ≡ s ∷ ss)
unfolding cut_at_255
some_segment zero packet granule least more = (_, _, refl)
some_segment (suc n) packet granule least more = (_, _, refl)

-- the headers behind which the setup header's page is written
front : (serial : ℕ) (headers : List Segment) (old ready : List ℕ) (held : Held) (s : Segment) (ss : List Segment)
    → ((last : ℕ) (more : List Segment) → old ++ pages_from serial last held more ≡ pages_from serial last first_page (headers ++ more))
    → held.closed ≡ true → ready ≡ old ++ written_page (page_with serial 0 held) → ready ++ pages_from serial 4 (next_page held) (s ∷ ss) ≡ pages_from serial 4 first_page (headers ++ s ∷ ss)
front serial headers old ready held s ss all shut is = ap (λ r. r ++ pages_from serial 4 (next_page held) (s ∷ ss)) is ∙ turned serial 4 held old s ss shut ∙ all 4 (s ∷ ss)

-- behind the headers all packets are to come
pub new_rest : (s : Stream) (old ready : List ℕ) (held : Held) (packets : List (List ℕ))
    → ((last : ℕ) (more : List Segment) → old ++ pages_from s.serial last held more ≡ pages_from s.serial last first_page (header_segments s ++ more))
    → held.closed ≡ true → 0 < length held.lacing → ready ≡ old ++ written_page (page_with s.serial 0 held)
    → rest_of (record { serial = s.serial; shift = s.shift; base = s.base; frames = 0; key = 0; held = next_page held; ready = ready; finished = false }) packets ≡ paged least_body s packets
unfolding rest_of paged paged_list frame_segments pages_from
new_rest s old ready held [] all shut there is =
    ap (λ b. ready ++ b) (pages_from-none s.serial 4 held) ∙ append-nil ready ∙ is ∙ ap (λ b. old ++ b) (sym (pages_from-last s.serial 0 held there)) ∙ all 0 []
    ∙ ap (pages_from s.serial 0 first_page) (append-nil (header_segments s))
new_rest s old ready held (packet ∷ packets) all shut there is =
    let key : ℕ = if is_key packet then 0 else 0 in
    let some = some_segment (length packet / 255) packet (granule_of s.base s.shift key 0) (Some least_body) (frame_segments least_body s.base s.shift 1 key packets) in
    ap (λ l. ready ++ pages_from s.serial 4 (next_page held) l) some.2
    ∙ front s.serial (header_segments s) old ready held some.0 some.1 all shut is
    ∙ ap (λ l. pages_from s.serial 4 first_page (header_segments s ++ l)) (sym some.2)
