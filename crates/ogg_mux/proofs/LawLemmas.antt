-- A walk goes over the first page, and so over all pages of a stream. `laws` cites these.
use Rattle.std.proofs.Common.{◌≡◌, ℕ, zero, suc, ◌+◌, ◌*◌, ◌/◌, ◌%◌, ◌<◌, ◌≤◌, Bool, true, false, ◌||◌, ◌&&◌, List, [], ◌∷◌, ◌++◌, length, length-append, length-drop, replicate, take, drop, map, nat_lt, Ok, Some, None, Option, if◌then◌else◌, ◌==◌, refl, ap, sym, subst, ◌∙◌, arith, ne_eqb, lt-ltb, true≢false, inl, inr, append_assoc, append-nil}
use Rattle.std.proofs.lemmas.List.{length-take-le, take-append-drop}
use Rattle.std.proofs.Math.Dec.{leb-zero}
use Rattle.ogg_page.specs.Packets.{segments}
use Rattle.ogg_link.specs.declared.state.Progress.{Progress}
use Rattle.ogg_link.specs.Track.{begins_track, is_key}
use Rattle.ogg_link.specs.Spacing.{BeginsWithKey}
use Rattle.ogg_link.specs.Progress.{lacing_of, after_pieces, is_crowded}
use Rattle.ogg_link.specs.Walk.{start, is_of_track}
use Rattle.ogg_link.specs.Faultless.{Begins, stepped}
use Rattle.ogg_link.specs.Granules.{settled}
use Rattle.ogg_link.proofs.ProgressLemmas.{packet_alone}
use Rattle.ogg_link.proofs.StepLemmas.{first_step_right}
use Rattle.ogg_mux.specs.OutputPages.{Held, Segment, Stream, first_page, next_page, grown, page_with, pages_list, cut_at_255, packet_segments, header_segments, frame_segments, paged_list, reaches}
use Rattle.ogg_mux.specs.Walked.{GoesOver, IsOfTrack}
use Rattle.ogg_mux.proofs.StreamLemmas.{header_segments-append}
use Rattle.ogg_mux.proofs.MuxLemmas.{some_segment}
use Rattle.ogg_mux.proofs.RightLemmas.{AllRight, AllRight-header, AllRight-frames, before}
use Rattle.ogg_mux.proofs.WalkLemmas.{IsLinked, IsEnd, known_on, pages_go}

-- a page on which a packet of n times 255 bytes and some more ends behind others
filled : Held → ℕ → ℕ → List ℕ → ℕ → Option ℕ → Held
filled held n rest bytes granule least = record {
  flags = held.flags;
  granule = granule;
  number = held.number;
  lacing = held.lacing ++ (replicate n 255 ++ rest ∷ []);
  body = held.body ++ bytes;
  goes_on = false;
  closed = (length (held.lacing ++ (replicate n 255 ++ rest ∷ [])) == 255) || reaches (length (held.body ++ bytes)) least;
}

-- a segment on a page that is not closed
open_step : (serial last : ℕ) (held : Held) (s : Segment) (ss : List Segment) → held.closed ≡ false → pages_list serial last held (s ∷ ss) ≡ pages_list serial last (grown held s) ss
unfolding pages_list
open_step serial last held s ss e = rw e refl

closed_step : (serial last : ℕ) (held : Held) (s : Segment) (ss : List Segment) → held.closed ≡ true → pages_list serial last held (s ∷ ss) ≡ page_with serial 0 held ∷ pages_list serial last (next_page held) (s ∷ ss)
unfolding pages_list next_page
closed_step serial last held s ss e = rw e refl

or_false : (b : Bool) → b ≡ false → b || false ≡ false
or_false b e = rw e refl

stays_open : (held : Held) (bytes : List ℕ) → length held.lacing + 2 ≤ 255 → (grown held (record { bytes = bytes; granule = None; least = None })).closed ≡ false
unfolding grown
stays_open held bytes room = or_false (length (held.lacing ++ length bytes ∷ []) == 255) (ne_eqb _ _ (λ e. omega (arith, e, length-append held.lacing (length bytes ∷ []))))

lacing-grown : (held : Held) (s : Segment) → (grown held s).lacing ≡ held.lacing ++ length s.bytes ∷ []
unfolding grown
lacing-grown held s = refl

-- a packet that fits its page
packet_fills : (n rest serial last : ℕ) (held : Held) (bytes : List ℕ) (granule : ℕ) (least : Option ℕ) (more : List Segment) → length bytes ≡ 255 * n + rest → held.closed ≡ false → length held.lacing + n + 1 ≤ 255
    → pages_list serial last held (cut_at_255 n bytes granule least ++ more) ≡ pages_list serial last (filled held n rest bytes granule least) more
unfolding cut_at_255 grown filled
packet_fills zero rest serial last held bytes granule least more size clear room =
    let is_rest : length bytes ≡ rest = omega arith in
    open_step serial last held (record { bytes = bytes; granule = Some granule; least = least }) more clear
    ∙ ap (λ r. pages_list serial last (filled held 0 r bytes granule least) more) is_rest
packet_fills (suc n) rest serial last held bytes granule least more size clear room =
    let segment : Segment = record { bytes = take 255 bytes; granule = None; least = None } in
    let full : length (take 255 bytes) ≡ 255 = length-take-le 255 bytes (omega arith) in
    let lacing : (held.lacing ++ length (take 255 bytes) ∷ []) ++ (replicate n 255 ++ rest ∷ []) ≡ held.lacing ++ (replicate (suc n) 255 ++ rest ∷ []) =
    ap (λ l. (held.lacing ++ l ∷ []) ++ (replicate n 255 ++ rest ∷ [])) full ∙ append_assoc held.lacing (255 ∷ []) (replicate n 255 ++ rest ∷ []) in
    let body : (held.body ++ take 255 bytes) ++ drop 255 bytes ≡ held.body ++ bytes = append_assoc held.body (take 255 bytes) (drop 255 bytes) ∙ ap (λ b. held.body ++ b) (take-append-drop 255 bytes) in
    open_step serial last held segment (cut_at_255 n (drop 255 bytes) granule least ++ more) clear
    ∙ packet_fills n rest serial last (grown held segment) (drop 255 bytes) granule least more (omega (arith, length-drop 255 bytes)) (stays_open held (take 255 bytes) (omega arith))
    (omega (arith, ap length (lacing-grown held segment), length-append held.lacing (length (take 255 bytes) ∷ [])))
    ∙ (λ i. pages_list serial last (record { flags = held.flags; granule = granule; number = held.number; lacing = lacing i; body = body i; goes_on = false; closed = (length (lacing i) == 255) || reaches (length (body i)) least }) more)

-- the page of the identification header
ident_page : List ℕ → Held
ident_page ident = filled first_page (length ident / 255) (length ident % 255) ident 0 (Some 0)

or_true : (b c : Bool) → c ≡ true → b || c ≡ true
or_true true c e = refl
or_true false c e = e

ident_closed : (ident : List ℕ) → (ident_page ident).closed ≡ true
unfolding ident_page filled
ident_closed ident = or_true (length (lacing_of (length ident)) == 255) (reaches (length ident) (Some 0)) (leb-zero (length ident))

alone_roomy : (n rest : ℕ) → is_crowded 0 (replicate n 255 ++ rest ∷ []) ≡ false
unfolding is_crowded
alone_roomy zero rest = elim (nat_lt rest 255) as (λ b. (if b then (if 0 == 2 then nat_lt 0 0 else false) else false) ≡ false) [ true ↦ refl | false ↦ refl ]
alone_roomy (suc n) rest = alone_roomy n rest

-- what is known behind the first packet
alone_known : (n rest : ℕ) (bytes : List ℕ) (unfinished key : Bool) → rest < 255
    → after_pieces (record { packets = 0; unfinished = unfinished; key = key; last_key = None }) (segments (replicate n 255 ++ rest ∷ []) bytes) ≡ before 1 None
unfolding after_pieces segments before
alone_known zero rest bytes unfinished key h =
    rw (lt-ltb rest 255 h) (elim (if unfinished then key else is_key (take rest bytes)) as (λ b. ◌≡◌ {A = Progress} (record { packets = 1; unfinished = false; key = false; last_key = if b && false then Some 0 else None }) (record { packets = 1; unfinished = false; key = false; last_key = None })) [ true ↦ refl | false ↦ refl ])
alone_known (suc n) rest bytes unfinished key h = alone_known n rest (drop 255 bytes) true (if unfinished then key else is_key (take 255 bytes)) h

ident_known : (ident : List ℕ) → known_on start (ident_page ident) ≡ before 1 None
unfolding ident_page filled
ident_known ident = alone_known (length ident / 255) (length ident % 255) ident false false (omega arith)

-- the first page fits
ident_begins : (serial : ℕ) (ident : List ℕ) → begins_track ident ≡ true → Begins start (page_with serial 0 (ident_page ident))
unfolding ident_page filled
ident_begins serial ident header = record {
  no_track = refl;
  no_data = refl;
  open_track = refl;
  whole = refl;
  begins_stream = refl;
  goes_on = refl;
  header = header;
  alone = packet_alone (length ident);
  roomy = alone_roomy (length ident / 255) (length ident % 255);
}

ident_of_track : (serial : ℕ) (ident : List ℕ) → begins_track ident ≡ true → is_of_track start (page_with serial 0 (ident_page ident)) ≡ true
unfolding ident_page filled
ident_of_track serial ident header = header

-- no frame ends on it
ident_settles : (serial shift : ℕ) (ident : List ℕ) → settled (stepped start (page_with serial 0 (ident_page ident))) shift ≡ Ok (stepped start (page_with serial 0 (ident_page ident)))
unfolding settled before
ident_settles serial shift ident = let known = ident_known ident in rw known refl

-- what is known behind it
ident_linked : (base shift serial : ℕ) (ident : List ℕ) → IsLinked base shift serial (stepped start (page_with serial 0 (ident_page ident))) (next_page (ident_page ident))
unfolding next_page segments after_pieces is_crowded ident_page filled before
ident_linked base shift serial ident =
    let known = ident_known ident in
    record {
      track = refl;
      open_track = refl;
      number = refl;
      flags = ap (λ (p : Progress). if p.unfinished then 1 else 0) (sym known);
      goes_on = λ there. absurd (omega (arith, there));
      shut = λ e. absurd (true≢false (sym e));
      shape = refl;
      count = omega (arith, ap (λ (p : Progress). p.packets) known);
      roomy = refl;
      apart = λ _. inl (omega (arith, ap (λ (p : Progress). p.packets) known));
      base_known = inl refl;
      right = λ _ more. absurd (omega (arith, more));
    }

known_next : (serial : ℕ) (ident : List ℕ) → known_on (stepped start (page_with serial 0 (ident_page ident))) (next_page (ident_page ident)) ≡ before 1 None
unfolding next_page segments after_pieces
known_next serial ident = ident_known ident

-- the first page, and then those of other segments
ident_goes : (base shift serial last : ℕ) (ident : List ℕ) (s : Segment) (ss : List Segment) → IsEnd last → begins_track ident ≡ true → AllRight base shift (before 1 None) (s ∷ ss)
    → GoesOver shift start (pages_list serial last (ident_page ident) (s ∷ ss))
unfolding GoesOver
ident_goes base shift serial last ident s ss end header right =
    subst (GoesOver shift start) (sym (closed_step serial last (ident_page ident) s ss (ident_closed ident))) (
      _,
      ident_of_track serial ident header,
      first_step_right start (page_with serial 0 (ident_page ident)) (ident_begins serial ident header),
      ident_settles serial shift ident,
      pages_go base shift serial last _ (next_page (ident_page ident)) (s ∷ ss) end (ident_linked base shift serial ident)
          (subst (λ known. AllRight base shift known (s ∷ ss)) (sym (known_next serial ident)) right),
    )

ident_fills : (serial last : ℕ) (ident : List ℕ) (more : List Segment) → length ident < 65025 → pages_list serial last first_page (packet_segments ident 0 (Some 0) ++ more) ≡ pages_list serial last (ident_page ident) more
unfolding ident_page
ident_fills serial last ident more short = packet_fills (length ident / 255) (length ident % 255) serial last first_page ident 0 (Some 0) more (omega arith) refl (omega arith)

-- the headers, and then right segments
headers_go : (s : Stream) (last : ℕ) (more : List Segment) → IsEnd last → begins_track s.ident ≡ true → length s.ident < 65025 → AllRight s.base s.shift (before 3 None) more
    → GoesOver s.shift start (pages_list s.serial last first_page (header_segments s ++ more))
headers_go s last more end header short right =
    let setup : List Segment = packet_segments s.setup 0 (Some 0) ++ more in
    let some = some_segment (length s.comment / 255) s.comment 0 None setup in
    let all : AllRight s.base s.shift (before 1 None) (packet_segments s.comment 0 None ++ setup) =
    AllRight-header s.base s.shift 1 s.comment None setup (omega arith) (λ two. absurd (omega (arith, two))) (AllRight-header s.base s.shift 2 s.setup (Some 0) more (omega arith) (λ _. refl) right) in
    subst (λ segments. GoesOver s.shift start (pages_list s.serial last first_page segments)) (sym (header_segments-append s more))
    (subst (GoesOver s.shift start) (sym (ident_fills s.serial last s.ident (packet_segments s.comment 0 None ++ setup) short))
    (subst (λ segments. GoesOver s.shift start (pages_list s.serial last (ident_page s.ident) segments)) (sym some.2)
    (ident_goes s.base s.shift s.serial last s.ident some.0 some.1 end header (subst (AllRight s.base s.shift (before 1 None)) some.2 all))))

no_frames : (base shift : ℕ) → AllRight base shift (before 3 None) []
unfolding AllRight before
no_frames base shift = (refl, omega arith)

first_key : (p : List ℕ) (ps : List (List ℕ)) → BeginsWithKey (map is_key (p ∷ ps)) → is_key p ≡ true
unfolding BeginsWithKey
first_key p ps h = h

-- a walk goes over all pages of a stream
pub stream_goes : (least : ℕ) (s : Stream) (ps : List (List ℕ)) → IsOfTrack s ps → GoesOver s.shift start (paged_list least s ps)
unfolding paged_list
stream_goes least s [] is =
    subst (λ segments. GoesOver s.shift start (pages_list s.serial 0 first_page segments)) (append-nil (header_segments s)) (headers_go s 0 [] (inl refl) is.begins is.short (no_frames s.base s.shift))
stream_goes least s (p ∷ ps) is =
    headers_go s 4 (frame_segments least s.base s.shift 0 0 (p ∷ ps)) (inr refl) is.begins is.short
    (AllRight-frames least s.base s.shift 0 0 0 None (p ∷ ps) (omega arith) (omega (arith, is.room.count)) refl (λ e. absurd (true≢false (sym (first_key p ps is.spaced.first) ∙ e))) is.spaced.close)
