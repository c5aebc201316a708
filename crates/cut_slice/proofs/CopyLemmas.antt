-- The pages of a stream whose packets each stand whole on one page. Copying cites these.
use Rattle.std.proofs.Common.{◌≡◌, ℕ, zero, suc, ◌+◌, ◌-◌, ◌*◌, ◌/◌, ◌%◌, ◌^◌, ◌<◌, ◌≤◌, Bool, true, false, ◌||◌, List, [], ◌∷◌, ◌++◌, length, take, drop, sum, All, map, drop-cons, get_or, Option, Some, None, refl, ap, sym, ◌∙◌, arith, append_assoc, length-append, length-drop, ◌==◌, if◌then◌else◌}
use Rattle.std.proofs.lemmas.List.{append-nil, length-take-le, take-append-drop, length-map}
use Rattle.std.specs.List.{take-map, drop-map}
use Rattle.std.proofs.lemmas.List.Elements.{All-take, All-drop}
use Rattle.std.proofs.lemmas.List.Sums.{sum_by-cons, sum_by-append}
use Rattle.std.proofs.lemmas.Bool.{ne_eqb, eq-eqb, eqb-true}
use Rattle.std.proofs.Math.Dec.{leb-zero}
use Rattle.std.proofs.Math.Nat.{div-add-mod, mod-eq_of_lt}
use Rattle.ogg_page.specs.Page.{Page, HasShape}
use Rattle.ogg_page.specs.Written.{page_of, written_page, written_pages}
use Rattle.ogg_link.specs.Track.{is_key, granule_of}
use Rattle.ogg_mux.specs.OutputPages.{Stream, Segment, Held, first_page, next_page, grown, page_with, pages_list, cut_at_255, packet_segments, frame_segments, paged_list, paged, reaches}
use Rattle.cut_slice.specs.Copy.{lacing_values, lacing_of, frame_pages, header_pages, IsShort}

-- a page of whole packets, of which the last ends with this granule position
abbrev whole_page : ℕ → ℕ → ℕ → Option ℕ → List ℕ → List ℕ → Held
whole_page flags number granule least lacing body = record {
  flags = flags;
  granule = granule;
  number = number;
  lacing = lacing;
  body = body;
  goes_on = false;
  closed = (length lacing == 255) || reaches (length body) least;
}

pub length-lacing_values : (n rest : ℕ) → length (lacing_values n rest) ≡ n + 1
unfolding lacing_values
length-lacing_values zero rest = refl
length-lacing_values (suc n) rest = omega (arith, length-lacing_values n rest)

pub sum-lacing_values : (n rest : ℕ) → sum (lacing_values n rest) ≡ 255 * n + rest
unfolding lacing_values
sum-lacing_values zero rest = sum_by-cons (λ x. x) rest [] ∙ omega arith
sum-lacing_values (suc n) rest = sum_by-cons (λ x. x) 255 (lacing_values n rest) ∙ omega (arith, sum-lacing_values n rest)

pub sum-lacing_of : (size : ℕ) → sum (lacing_of size) ≡ size
sum-lacing_of size = sum-lacing_values (size / 255) (size % 255) ∙ div-add-mod size 255

-- a segment on a page that is not closed
open_step : (serial last : ℕ) (held : Held) (s : Segment) (ss : List Segment) → held.closed ≡ false → pages_list serial last held (s ∷ ss) ≡ pages_list serial last (grown held s) ss
unfolding pages_list
open_step serial last held s ss e = rw e refl

-- a segment behind a page that is closed
closed_step : (serial last : ℕ) (held : Held) (s : Segment) (ss : List Segment) → held.closed ≡ true → pages_list serial last held (s ∷ ss) ≡ page_with serial 0 held ∷ pages_list serial last (next_page held) (s ∷ ss)
unfolding pages_list next_page
closed_step serial last held s ss e = rw e refl

-- the first segment of a packet
first_segment : (n : ℕ) (packet : List ℕ) (granule : ℕ) (least : Option ℕ) (more : List Segment) → (s : Segment) × (ss : List Segment) × (cut_at_255 n packet granule least ++ more ≡ s ∷ ss)
unfolding cut_at_255
first_segment zero packet granule least more = (record { bytes = packet; granule = Some granule; least = least }, more, refl)
first_segment (suc n) packet granule least more = (record { bytes = take 255 packet; granule = None; least = None }, cut_at_255 n (drop 255 packet) granule least ++ more, refl)

-- a packet behind a page that is closed
next_step : (serial last : ℕ) (held : Held) (n : ℕ) (packet : List ℕ) (granule : ℕ) (least : Option ℕ) (more : List Segment) → held.closed ≡ true
    → pages_list serial last held (cut_at_255 n packet granule least ++ more) ≡ page_with serial 0 held ∷ pages_list serial last (next_page held) (cut_at_255 n packet granule least ++ more)
next_step serial last held n packet granule least more e =
    let found = first_segment n packet granule least more in
    ap (pages_list serial last held) found.2 ∙ closed_step serial last held found.0 found.1 e
    ∙ ap (λ ss. page_with serial 0 held ∷ pages_list serial last (next_page held) ss) (sym found.2)

or_false : (b : Bool) → b ≡ false → b || false ≡ false
or_false b e = rw e refl

or_true : (b c : Bool) → c ≡ true → b || c ≡ true
or_true true c e = refl
or_true false c e = e

-- the parts of a page that a segment of 255 bytes leaves open
grown_on : (held : Held) (packet : List ℕ) → 255 ≤ length packet → length held.lacing + 2 ≤ 255
    → ((grown held (record { bytes = take 255 packet; granule = None; least = None })).lacing ≡ held.lacing ++ 255 ∷ [])
    × ((grown held (record { bytes = take 255 packet; granule = None; least = None })).closed ≡ false)
unfolding grown
grown_on held packet h room =
    let size : length (take 255 packet) ≡ 255 = length-take-le 255 packet h in
    (ap (λ n. held.lacing ++ n ∷ []) size, or_false (length (held.lacing ++ length (take 255 packet) ∷ []) == 255) (ne_eqb _ _ (λ e. omega (arith, e, length-append held.lacing (length (take 255 packet) ∷ [])))))

-- a packet that fits its page
packet_whole : (n serial last : ℕ) (held : Held) (packet : List ℕ) (rest granule : ℕ) (least : Option ℕ) (more : List Segment) → length packet ≡ 255 * n + rest → held.closed ≡ false → length held.lacing + n + 1 ≤ 255
    → pages_list serial last held (cut_at_255 n packet granule least ++ more) ≡ pages_list serial last (whole_page held.flags held.number granule least (held.lacing ++ lacing_values n rest) (held.body ++ packet)) more
unfolding cut_at_255 grown lacing_values
packet_whole zero serial last held packet rest granule least more size e room =
    let is_rest : length packet ≡ rest = omega arith in
    open_step serial last held (record { bytes = packet; granule = Some granule; least = least }) more e
    ∙ ap (λ r. pages_list serial last (whole_page held.flags held.number granule least (held.lacing ++ r ∷ []) (held.body ++ packet)) more) is_rest
packet_whole (suc n) serial last held packet rest granule least more size e room =
    let segment : Segment = record { bytes = take 255 packet; granule = None; least = None } in
    let on = grown_on held packet (omega arith) (omega arith) in
    let lacing : (grown held segment).lacing ≡ held.lacing ++ 255 ∷ [] = on.0 in
    let left : length (drop 255 packet) ≡ 255 * n + rest = omega (arith, length-drop 255 packet) in
    let space : length (grown held segment).lacing + n + 1 ≤ 255 = omega (arith, ap length lacing, length-append held.lacing (255 ∷ [])) in
    open_step serial last held segment (cut_at_255 n (drop 255 packet) granule least ++ more) e
    ∙ packet_whole n serial last (grown held segment) (drop 255 packet) rest granule least more left on.1 space
    ∙ ap (λ l. pages_list serial last (whole_page held.flags held.number granule least (l ++ lacing_values n rest) ((held.body ++ take 255 packet) ++ drop 255 packet)) more) lacing
    ∙ ap (λ l. pages_list serial last (whole_page held.flags held.number granule least l ((held.body ++ take 255 packet) ++ drop 255 packet)) more) (append_assoc held.lacing (255 ∷ []) (lacing_values n rest))
    ∙ ap (λ b. pages_list serial last (whole_page held.flags held.number granule least (held.lacing ++ 255 ∷ lacing_values n rest) b) more) (append_assoc held.body (take 255 packet) (drop 255 packet) ∙ ap (λ p. held.body ++ p) (take-append-drop 255 packet))

-- a page that is not the last
more_follow : (serial : ℕ) (held : Held) (packet : List ℕ) (packets : List (List ℕ)) → page_with serial 0 held ≡ page_with serial (if length (packet ∷ packets) == 0 then 4 else 0) held
more_follow serial held packet packets =
    let some : length (packet ∷ packets) == 0 ≡ false = ne_eqb _ _ (λ e. omega (arith, e)) in
    rw some refl

-- the flags of a page that has none of its own
own_flags : (flags granule serial number : ℕ) (lacing body : List ℕ) → ◌≡◌ {A = Page} (record { flags = 0 + flags; granule = granule; serial = serial; number = number; lacing = lacing; body = body }) (record { flags = flags; granule = granule; serial = serial; number = number; lacing = lacing; body = body })
own_flags flags granule serial number lacing body = let none : 0 + flags ≡ flags = omega arith in rw none refl

-- the pages of frames behind a page that is closed
frames_paged : (stream : Stream) (held : Held) (n f k : ℕ) (packets : List (List ℕ)) → held.closed ≡ true → held.goes_on ≡ false → 0 < length held.lacing → held.number + 1 ≡ n → n + length packets < 2 ^ 32 → All IsShort packets
    → pages_list stream.serial 4 held (frame_segments 0 stream.base stream.shift f k packets) ≡ page_with stream.serial (if length packets == 0 then 4 else 0) held ∷ frame_pages stream n f k packets
unfolding frame_segments frame_pages pages_list next_page
frames_paged stream held n f k [] shut whole some number room short = let full : length held.lacing == 0 ≡ false = ne_eqb _ _ (λ e. omega (arith, e)) in rw full refl
frames_paged stream held n f k (packet ∷ packets) shut whole some number room short =
    let key : ℕ = if is_key packet then f else k in
    let granule : ℕ = granule_of stream.base stream.shift key f in
    let rest : List Segment = frame_segments 0 stream.base stream.shift (f + 1) key packets in
    let first : length packet / 255 < 255 = short 0 [] (omega arith) in
    let others : All IsShort packets = λ i d h. short (suc i) d (omega arith) in
    let page : Held = whole_page 0 n granule (Some 0) (lacing_of (length packet)) packet in
    let size : length packet ≡ 255 * (length packet / 255) + length packet % 255 = sym (div-add-mod (length packet) 255) in
    let flags : (if held.goes_on then 1 else 0) ≡ 0 = rw whole refl in
    let next_number : (held.number + 1) % 2 ^ 32 ≡ n = ap (λ m. m % 2 ^ 32) number ∙ mod-eq_of_lt (omega arith) in
    let closes : page.closed ≡ true = or_true (length (lacing_of (length packet)) == 255) (reaches (length packet) (Some 0)) (leb-zero (length packet)) in
    next_step stream.serial 4 held (length packet / 255) packet granule (Some 0) rest shut
    ∙ ap (λ pages. page_with stream.serial 0 held ∷ pages)
    (packet_whole (length packet / 255) stream.serial 4 (next_page held) packet (length packet % 255) granule (Some 0) rest size refl (omega arith)
    ∙ ap (λ fl. pages_list stream.serial 4 (whole_page fl ((held.number + 1) % 2 ^ 32) granule (Some 0) (lacing_of (length packet)) packet) rest) flags
    ∙ ap (λ m. pages_list stream.serial 4 (whole_page 0 m granule (Some 0) (lacing_of (length packet)) packet) rest) next_number
    ∙ frames_paged stream page (n + 1) (f + 1) key packets closes refl (omega (arith, length-lacing_values (length packet / 255) (length packet % 255))) refl (omega arith) others
    ∙ ap (λ p. p ∷ frame_pages stream (n + 1) (f + 1) key packets) (own_flags (if length packets == 0 then 4 else 0) granule stream.serial n (lacing_of (length packet)) packet))
    ∙ ap (λ p. p ∷ frame_pages stream n f k (packet ∷ packets)) (more_follow stream.serial held packet packets)

-- the pages of a stream
pub stream_paged : (stream : Stream) (packet : List ℕ) (packets : List (List ℕ)) → IsShort stream.ident
    → length (lacing_of (length stream.comment)) + length (lacing_of (length stream.setup)) ≤ 255 → All IsShort (packet ∷ packets) → 2 + length (packet ∷ packets) < 2 ^ 32
    → paged_list 0 stream (packet ∷ packets) ≡ header_pages stream ++ frame_pages stream 2 0 0 (packet ∷ packets)
unfolding paged_list next_page
stream_paged stream packet packets ident headers short room =
    let frames : List Segment = frame_segments 0 stream.base stream.shift 0 0 (packet ∷ packets) in
    let comment_size : length stream.comment ≡ 255 * (length stream.comment / 255) + length stream.comment % 255 = sym (div-add-mod (length stream.comment) 255) in
    let setup_size : length stream.setup ≡ 255 * (length stream.setup / 255) + length stream.setup % 255 = sym (div-add-mod (length stream.setup) 255) in
    let ident_size : length stream.ident ≡ 255 * (length stream.ident / 255) + length stream.ident % 255 = sym (div-add-mod (length stream.ident) 255) in
    let comment_count = length-lacing_values (length stream.comment / 255) (length stream.comment % 255) in
    let setup_count = length-lacing_values (length stream.setup / 255) (length stream.setup % 255) in
    let ident_page : Held = whole_page 2 0 0 (Some 0) (lacing_of (length stream.ident)) stream.ident in
    let comment_page : Held = whole_page 0 1 0 None (lacing_of (length stream.comment)) stream.comment in
    let setup_page : Held = whole_page 0 1 0 (Some 0) (lacing_of (length stream.comment) ++ lacing_of (length stream.setup)) (stream.comment ++ stream.setup) in
    let goes_on : comment_page.closed ≡ false = or_false (length (lacing_of (length stream.comment)) == 255) (ne_eqb _ _ (λ e. omega (arith, e, comment_count, setup_count))) in
    let setup_closes : setup_page.closed ≡ true = or_true (length setup_page.lacing == 255) (reaches (length setup_page.body) (Some 0)) (leb-zero (length setup_page.body)) in
    let ident_closes : ident_page.closed ≡ true = or_true (length ident_page.lacing == 255) (reaches (length ident_page.body) (Some 0)) (leb-zero (length ident_page.body)) in
    ap (pages_list stream.serial 4 first_page) (append_assoc (packet_segments stream.ident 0 (Some 0) ++ packet_segments stream.comment 0 None) (packet_segments stream.setup 0 (Some 0)) frames
    ∙ append_assoc (packet_segments stream.ident 0 (Some 0)) (packet_segments stream.comment 0 None) (packet_segments stream.setup 0 (Some 0) ++ frames))
    ∙ packet_whole (length stream.ident / 255) stream.serial 4 first_page stream.ident (length stream.ident % 255) 0 (Some 0) (packet_segments stream.comment 0 None ++ (packet_segments stream.setup 0 (Some 0) ++ frames)) ident_size refl (omega arith)
    ∙ next_step stream.serial 4 ident_page (length stream.comment / 255) stream.comment 0 None (packet_segments stream.setup 0 (Some 0) ++ frames) ident_closes
    ∙ ap (λ pages. page_with stream.serial 0 ident_page ∷ pages)
    (packet_whole (length stream.comment / 255) stream.serial 4 (next_page ident_page) stream.comment (length stream.comment % 255) 0 None (packet_segments stream.setup 0 (Some 0) ++ frames) comment_size refl (omega (arith, comment_count, setup_count))
    ∙ packet_whole (length stream.setup / 255) stream.serial 4 comment_page stream.setup (length stream.setup % 255) 0 (Some 0) frames setup_size goes_on (omega (arith, comment_count, setup_count))
    ∙ frames_paged stream setup_page 2 0 0 (packet ∷ packets) setup_closes refl (omega (arith, comment_count, length-append (lacing_of (length stream.comment)) (lacing_of (length stream.setup)))) refl room short
    ∙ ap (λ p. p ∷ frame_pages stream 2 0 0 (packet ∷ packets)) (sym (more_follow stream.serial setup_page packet packets)))

-- lacing bytes and body of a page on which one packet stands whole
pub packet_shape : (packet : List ℕ) → IsShort packet → HasShape (lacing_of (length packet)) packet
packet_shape packet short = record { count = omega (arith, length-lacing_values (length packet / 255) (length packet % 255)); sum = sum-lacing_of (length packet) }

-- and of a page on which two stand
pub two_shape : (first second : List ℕ) → length first / 255 + length second / 255 + 2 ≤ 255 → HasShape (lacing_of (length first) ++ lacing_of (length second)) (first ++ second)
two_shape first second short = record {
  count = omega (arith, length-lacing_values (length first / 255) (length first % 255), length-lacing_values (length second / 255) (length second % 255), length-append (lacing_of (length first)) (lacing_of (length second)));
  sum = sum_by-append (λ x. x) (lacing_of (length first)) (lacing_of (length second)) ∙ omega (arith, sum-lacing_of (length first), sum-lacing_of (length second), length-append first second);
}

-- the same of lists that are these
pub two_shape_of : (first second lacing body : List ℕ) → length first / 255 + length second / 255 + 2 ≤ 255 → lacing ≡ lacing_of (length first) ++ lacing_of (length second) → body ≡ first ++ second → HasShape lacing body
two_shape_of first second lacing body short e f = rw (e, f) (two_shape first second short)

-- one lacing value of 255 more
pub lacing_step : (front : List ℕ) (n i rest : ℕ) → i < n → (front ++ 255 ∷ []) ++ lacing_values (n - (i + 1)) rest ≡ front ++ lacing_values (n - i) rest
unfolding lacing_values
lacing_step front n i rest h = let k : n - i ≡ suc (n - (i + 1)) = omega arith in rw k (append_assoc front (255 ∷ []) (lacing_values (n - (i + 1)) rest))

pub lacing_end : (front : List ℕ) (n rest : ℕ) → n ≡ 0 → front ++ rest ∷ [] ≡ front ++ lacing_values n rest
unfolding lacing_values
lacing_end front n rest e = rw e refl

same_test : (a b c d : ℕ) → (a ≡ b → c ≡ d) → (c ≡ d → a ≡ b) → a == b ≡ c == d
same_test a b c d p q = go (a == b) refl (c == d) refl
  where
    go : (s : Bool) → a == b ≡ s → (t : Bool) → c == d ≡ t → s ≡ t
    go true e true f = refl
    go false e false f = refl
    go true e false f = let y : c == d ≡ true = eq-eqb c d (p (eqb-true a b e)) in cc
    go false e true f = let y : a == b ≡ true = eq-eqb a b (q (eqb-true c d f)) in cc

-- the page of the next frame, and those of the others
pub frames_step : (stream : Stream) (all : List (List ℕ)) (f k : ℕ) (packet : List ℕ) → f < length all → get_or all f [] ≡ packet
    → written_pages (frame_pages stream (2 + f) f k (drop f all))
    ≡ page_of (if f + 1 == length all then 4 else 0) (granule_of stream.base stream.shift (if is_key packet then f else k) f) stream.serial (2 + f) (lacing_of (length packet)) packet
    ++ written_pages (frame_pages stream (2 + (f + 1)) (f + 1) (if is_key packet then f else k) (drop (f + 1) all))
unfolding frame_pages written_pages
frames_step stream all f k packet h e =
    let next : suc f ≡ f + 1 = omega arith in
    let split : drop f all ≡ packet ∷ drop (f + 1) all = drop-cons all f [] h ∙ ap (λ p. p ∷ drop (suc f) all) e ∙ ap (λ n. packet ∷ drop n all) next in
    let last : length (drop (f + 1) all) == 0 ≡ f + 1 == length all = same_test (length (drop (f + 1) all)) 0 (f + 1) (length all) (λ z. omega (arith, z, length-drop (f + 1) all)) (λ z. omega (arith, z, length-drop (f + 1) all)) in
    let number : 2 + f + 1 ≡ 2 + (f + 1) = omega arith in
    rw (split, last, number) refl

frames_end : (stream : Stream) (n f k : ℕ) (all : List (List ℕ)) → length all ≤ f → written_pages (frame_pages stream n f k (drop f all)) ≡ []
unfolding frame_pages written_pages
frames_end stream n f k all h = go (drop f all) (length-drop f all ∙ omega arith)
  where
    go : (packets : List (List ℕ)) → length packets ≡ 0 → written_pages (frame_pages stream n f k packets) ≡ []
    go [] e = refl
    go (p ∷ packets) e = absurd (omega arith)

-- where no frame is left all pages came
pub frames_done : (stream : Stream) (n f k : ℕ) (all : List (List ℕ)) (came pages : List ℕ) → length all ≤ f → came ++ written_pages (frame_pages stream n f k (drop f all)) ≡ pages → came ≡ pages
frames_done stream n f k all came pages h e = sym (append-nil came) ∙ ap (λ p. came ++ p) (sym (frames_end stream n f k all h)) ∙ e

pub written-append : (xs ys : List Page) → written_pages (xs ++ ys) ≡ written_pages xs ++ written_pages ys
unfolding written_pages
written-append [] ys = refl
written-append (x ∷ xs) ys = ap (λ b. written_page x ++ b) (written-append xs ys) ∙ sym (append_assoc (written_page x) (written_pages xs) (written_pages ys))

pub written_two : (x y : Page) → written_pages (x ∷ y ∷ []) ≡ written_page x ++ written_page y
unfolding written_pages
written_two x y = ap (λ b. written_page x ++ b) (append-nil (written_page y))

map_at : {A : Type 0} (view : A → List ℕ) (xs : List A) (k : ℕ) (d : A) → k < length xs → get_or (map view xs) k [] ≡ view (get_or xs k d)
map_at view [] k d h = absurd (omega arith)
map_at view (x ∷ xs) zero d h = refl
map_at view (x ∷ xs) (suc k) d h = map_at view xs k d (omega arith)

-- one packet of those that are all short
pub short_at : {A : Type 0} (view : A → List ℕ) (xs : List A) (k : ℕ) (d : A) → k < length xs → All IsShort (map view xs) → IsShort (view (get_or xs k d))
short_at view xs k d h short = let here : IsShort (get_or (map view xs) k []) = short k [] (omega (arith, length-map xs view)) in rw (map_at view xs k d h) at here

-- a part of packets that are all short
pub short_part : {A : Type 0} (view : A → List ℕ) (xs : List A) (first n : ℕ) → All IsShort (map view xs) → All IsShort (map view (take n (drop first xs)))
short_part view xs first n short = rw (← take-map view n (drop first xs), ← drop-map view first xs) (All-take IsShort n (drop first (map view xs)) (All-drop IsShort first (map view xs) short))

-- the page of the next frame came
pub frame_came : {A : Type 0} (view : A → List ℕ) (stream : Stream) (frames : List A) (f k key flags granule serial number : ℕ) (d : A) (came pages : List ℕ) → f < length frames
    → key ≡ (if is_key (view (get_or frames f d)) then f else k) → flags ≡ (if f + 1 == length frames then 4 else 0) → granule ≡ granule_of stream.base stream.shift key f → serial ≡ stream.serial → number ≡ 2 + f
    → came ++ written_pages (frame_pages stream (2 + f) f k (map view (drop f frames))) ≡ pages
    → (came ++ page_of flags granule serial number (lacing_of (length (view (get_or frames f d)))) (view (get_or frames f d))) ++ written_pages (frame_pages stream (2 + (f + 1)) (f + 1) key (map view (drop (f + 1) frames))) ≡ pages
frame_came view stream frames f k key flags granule serial number d came pages h is_last has_flags has_granule has_serial has_number all =
    let packet = view (get_or frames f d) in
    let count : length (map view frames) ≡ length frames = length-map frames view in
    let step = frames_step stream (map view frames) f k packet (omega (arith, count)) (map_at view frames f d h) in
    let page : page_of flags granule serial number (lacing_of (length packet)) packet ≡ page_of (if f + 1 == length (map view frames) then 4 else 0) (granule_of stream.base stream.shift (if is_key packet then f else k) f) stream.serial (2 + f) (lacing_of (length packet)) packet =
    rw (has_flags, has_granule, has_serial, has_number, is_last, count) refl in
    append_assoc came (page_of flags granule serial number (lacing_of (length packet)) packet) (written_pages (frame_pages stream (2 + (f + 1)) (f + 1) key (map view (drop (f + 1) frames))))
    ∙ ap (λ b. came ++ b) (ap (λ p. p ++ written_pages (frame_pages stream (2 + (f + 1)) (f + 1) key (map view (drop (f + 1) frames)))) page
    ∙ ap (λ q. page_of (if f + 1 == length (map view frames) then 4 else 0) (granule_of stream.base stream.shift (if is_key packet then f else k) f) stream.serial (2 + f) (lacing_of (length packet)) packet ++ written_pages (frame_pages stream (2 + (f + 1)) (f + 1) q (map view (drop (f + 1) frames)))) is_last
    ∙ ap (λ ps. page_of (if f + 1 == length (map view frames) then 4 else 0) (granule_of stream.base stream.shift (if is_key packet then f else k) f) stream.serial (2 + f) (lacing_of (length packet)) packet ++ written_pages (frame_pages stream (2 + (f + 1)) (f + 1) (if is_key packet then f else k) ps)) (sym (drop-map view (f + 1) frames))
    ∙ sym step
    ∙ ap (λ ps. written_pages (frame_pages stream (2 + f) f k ps)) (drop-map view f frames))
    ∙ all

-- all pages came
pub frames_came : {A : Type 0} (view : A → List ℕ) (stream : Stream) (frames : List A) (n f k : ℕ) (came pages : List ℕ) → length frames ≤ f → came ++ written_pages (frame_pages stream n f k (map view (drop f frames))) ≡ pages → came ≡ pages
frames_came view stream frames n f k came pages h e =
    frames_done stream n f k (map view frames) came pages (omega (arith, length-map frames view)) (ap (λ ps. came ++ written_pages (frame_pages stream n f k ps)) (drop-map view f frames) ∙ e)

-- the bytes of a cut are those of its pages
pub cut_written : (stream : Stream) (packets : List (List ℕ)) → 0 < length packets → IsShort stream.ident → length stream.comment / 255 + length stream.setup / 255 + 2 ≤ 255 → All IsShort packets → 2 + length packets < 2 ^ 32
    → paged 0 stream packets ≡ written_pages (header_pages stream) ++ written_pages (frame_pages stream 2 0 0 packets)
unfolding paged
cut_written stream [] some ident others short few = absurd (omega arith)
cut_written stream (packet ∷ packets) some ident others short few =
    let headers : length (lacing_of (length stream.comment)) + length (lacing_of (length stream.setup)) ≤ 255 = omega (arith, length-lacing_values (length stream.comment / 255) (length stream.comment % 255), length-lacing_values (length stream.setup / 255) (length stream.setup % 255)) in
    ap written_pages (stream_paged stream packet packets ident headers short few) ∙ written-append (header_pages stream) (frame_pages stream 2 0 0 (packet ∷ packets))

pub granule_is : (base base' shift shift' key f : ℕ) → base ≡ base' → shift ≡ shift' → granule_of base shift key f ≡ granule_of base' shift' key f
granule_is base base' shift shift' key f e h = rw (e, h) refl
