-- Pages over which a walk goes without a fault, and whose packets have none, are judged well. `laws` cites these.
use Rattle.std.proofs.Common.{◌≡◌, ℕ, ◌+◌, ◌-◌, ◌^◌, ◌<◌, ◌≤◌, ◌&&◌, ◌||◌, Bool, true, false, List, [], ◌∷◌, ◌++◌, length, length-append, length-take, take, drop, sum, Option, Some, None, Result, Ok, Err, IsOk, nat_eq, nat_le, nat_lt, map, if◌then◌else◌, is_none, All, refl, ap, sym, subst, ◌∙◌, arith, le-ltb, ltb-true, true≢false, append_assoc, append-nil}
use Rattle.std.specs.List.{starts_with}
use Rattle.std.specs.Str.{bytes_eq}
use Rattle.std.proofs.lemmas.Slice.Eq.{bytes_eq-Decides}
use Rattle.vid_base.specs.Reading.{◌>>=◌, and_then}
use Rattle.vid_base.specs.declared.fault.PacketFault.{PacketFault}
use Rattle.vid_base.specs.declared.fault.PacketFault.TheVariants.{TooLarge, NotIdent, Ended}
use Rattle.vid_base.specs.Rules.{Rule, first_fault, unless}
use Rattle.ogg_page.specs.Page.{Page, bytes_of_page, ArePages}
use Rattle.ogg_page.specs.Packets.{Piece, segments, packets_from, left_from, segments_of, packets_of}
use Rattle.ogg_page.proofs.PacketLemmas.{packets_go_on, left_goes_on}
use Rattle.ogg_link.specs.declared.state.State.{State}
use Rattle.ogg_link.specs.declared.fault.LinkFault.TheVariants.{NoTrack, UnfinishedPacket}
use Rattle.ogg_link.specs.declared.state.Progress.{Progress}
use Rattle.ogg_link.specs.Track.{is_key, magic, begins_track}
use Rattle.ogg_link.specs.Spacing.{AreSpaced}
use Rattle.ogg_link.specs.Parts.{lacing_if}
use Rattle.ogg_link.specs.Progress.{one_more, counted, key_after, after_pieces, last_key_among, Holds}
use Rattle.ogg_link.specs.Walk.{start, step, ended, is_of_track}
use Rattle.ogg_link.specs.Faultless.{stepped}
use Rattle.ogg_link.specs.Granules.{settled, against_key}
use Rattle.ogg_link.proofs.EndLemmas.{settled_keeps}
use Rattle.ogg_link.proofs.KeyLemmas.{last_key_of_page}
use Rattle.ogg_link.proofs.ProgressLemmas.{packets_counted}
use Rattle.ogg_link.proofs.StepLemmas.{start_holds, walk_holds}
use Rattle.ogg_mux.specs.OutputPages.{Stream, paged, paged_list}
use Rattle.ogg_mux.specs.Walked.{HasRoom, IsOfTrack, GoesOver}
use Rattle.ogg_mux.proofs.StreamLemmas.{ArePages-paged, packets_of-paged_list}
use Rattle.ogg_mux.proofs.LawLemmas.{stream_goes}
use Rattle.thr_ident.specs.Header.{Header, ident_name, ident_length, header_in}
use Rattle.thr_ident.specs.Ident.{ident_of, ident_rules, header_rules}
use Rattle.thr_ident.specs.Comment.{comment_of}
use Rattle.thr_setup.specs.Setup.{setup_of}
use Rattle.src_index.specs.declared.fault.Fault.{Fault}
use Rattle.src_index.specs.Said.{Said, Start, WithIdent, WithComment, WithSetup, shift_of}
use Rattle.src_index.specs.Checks.{packet_step, packets_over, left_over, fault_at, most_bytes, AreFaultless}
use Rattle.src_index.specs.Judge.{Before, Judges, Judged, page_checks, pieces_over, with_pieces, track_pieces, packets_on, verdict_here, in_link, nothing}
use Rattle.src_index.proofs.CheckLemmas.{bind_ok, and_then_ok, step_passed, frame_leaves, packets_short}
use Rattle.src_index.proofs.FaultlessLemmas.{count_after, count_is, over_anywhere, page_shape, faultless_spaced}

-- packets without a fault in two parts
over_append : (at number : ℕ) (last : Option ℕ) (said final : Said) (xs ys : List (List ℕ)) → packets_over at number last said (xs ++ ys) ≡ Ok final
    → (next : Said) × (packets_over at number last said xs ≡ Ok next) × (packets_over at (count_after number xs) (last_key_among number last xs) next ys ≡ Ok final)
unfolding packets_over last_key_among count_after
over_append at number last said final [] ys h = (said, refl, h)
over_append at number last said final (x ∷ xs) ys h =
    let first = and_then_ok (packet_step said (counted number last x) x) (λ next. packets_over at (one_more number) (key_after (is_key x) number last) next (xs ++ ys)) (fault_at at number) final h in
    let rest = over_append at (one_more number) (key_after (is_key x) number last) first.0 final xs ys first.2 in
    (rest.0, ap (λ read. and_then read (λ next. packets_over at (one_more number) (key_after (is_key x) number last) next xs) (fault_at at number)) first.1 ∙ rest.1, rest.2)

-- the identification header, which was said or comes next, has this shift
Tells : ℕ → Said → List (List ℕ) → Type 0
Tells shift Start [] = Unit {0}
Tells shift Start (p ∷ ps) = (header : Header) × (ident_of p ≡ Ok header) × (header.shift ≡ shift)
Tells shift (WithIdent header) ps = header.shift ≡ shift
Tells shift (WithComment header) ps = header.shift ≡ shift
Tells shift (WithSetup header contents) ps = header.shift ≡ shift

tells_step : (shift : ℕ) (said next : Said) (number : ℕ) (last : Option ℕ) (p : List ℕ) (ps : List (List ℕ)) → Tells shift said (p ∷ ps) → packet_step said (counted number last p) p ≡ Ok next
    → (shift_of next ≡ shift) × Tells shift next ps
unfolding Tells
tells_step shift Start next number last p ps t h =
    let passed = step_passed Start next (counted number last p) p h in
    let read = bind_ok (ident_of p) (λ header. Ok (WithIdent header)) next passed.1 in
    let header : read.0 ≡ t.0 = cc in
    let is : next ≡ WithIdent t.0 = cc in
    rw is (t.2, t.2)
tells_step shift (WithIdent header) next number last p ps t h =
    let passed = step_passed (WithIdent header) next (counted number last p) p h in
    let read = bind_ok (comment_of p) (λ read. Ok (WithComment header)) next passed.1 in
    let is : next ≡ WithComment header = cc in
    rw is (t, t)
tells_step shift (WithComment header) next number last p ps t h =
    let passed = step_passed (WithComment header) next (counted number last p) p h in
    let read = bind_ok (setup_of p) (λ contents. Ok (WithSetup header contents)) next passed.1 in
    let is : next ≡ WithSetup header read.0 = cc in
    rw is (t, t)
tells_step shift (WithSetup header contents) next number last p ps t h =
    let passed = step_passed (WithSetup header contents) next (counted number last p) p h in
    let is : next ≡ WithSetup header contents = frame_leaves header contents next number last p passed.1 in
    rw is (t, t)

tells_over : (shift at number : ℕ) (last : Option ℕ) (said next : Said) (xs ys : List (List ℕ)) → Tells shift said (xs ++ ys) → packets_over at number last said xs ≡ Ok next
    → (0 < length xs → shift_of next ≡ shift) × Tells shift next ys
unfolding packets_over
tells_over shift at number last said next [] ys t h = let same : said ≡ next = cc in (λ some. absurd (omega (arith, some)), subst (λ s. Tells shift s ys) same t)
tells_over shift at number last said next (x ∷ xs) ys t h =
    let first = and_then_ok (packet_step said (counted number last x) x) (λ step. packets_over at (one_more number) (key_after (is_key x) number last) step xs) (fault_at at number) next h in
    let one = tells_step shift said first.0 number last x (xs ++ ys) t first.1 in
    let rest = tells_over shift at (one_more number) (key_after (is_key x) number last) first.0 next xs ys one.1 first.2 in
    (λ _. shift_stays shift at (one_more number) (key_after (is_key x) number last) first.0 next xs one.0 rest.0 first.2, rest.1)
  where
    shift_stays : (shift at number : ℕ) (last : Option ℕ) (said next : Said) (xs : List (List ℕ)) → shift_of said ≡ shift → (0 < length xs → shift_of next ≡ shift) → packets_over at number last said xs ≡ Ok next → shift_of next ≡ shift
    shift_stays shift at number last said next [] told more h = let same : said ≡ next = cc in ap shift_of (sym same) ∙ told
    shift_stays shift at number last said next (x ∷ xs) told more h = more (omega arith)

-- the position of a page, where the shift is the one that is said
settled_by : (next found : State) (shift other : ℕ) → settled next shift ≡ Ok found → (next.settles ≡ true → other ≡ shift) → settled next other ≡ Ok found
unfolding settled
settled_by next found shift other h told =
    elim next.settles as (λ b. (b ≡ next.settles) → (if b then against_key next shift next.progress.last_key else Ok next) ≡ Ok found → (if b then against_key next other next.progress.last_key else Ok next) ≡ Ok found) [
      | true ↦ λ e k. ap (λ s. against_key next s next.progress.last_key) (told (sym e)) ∙ k
      | false ↦ λ e k. k
    ] refl h

and_right : (a b : Bool) → a && b ≡ true → b ≡ true
and_right true b e = e
and_right false b e = absurd (true≢false (sym e))

-- where a frame ends on a page, the header was said before
shift_there : (walk : State) (page : Page) (begun : List ℕ) (shift other : ℕ) → walk.progress.packets ≤ 2 ^ 64 - 1 → (0 < length (packets_from begun (segments page.lacing page.body)) → other ≡ shift) → (stepped walk page).settles ≡ true → other ≡ shift
shift_there walk page begun shift other fits told settles =
    let after : Progress = after_pieces walk.progress (segments page.lacing page.body) in
    let more : walk.progress.packets < after.packets = ltb-true walk.progress.packets after.packets (and_right (nat_lt 3 after.packets) (nat_lt walk.progress.packets after.packets) settles) in
    told (omega (arith, more, packets_counted walk.progress begun (segments page.lacing page.body) fits))

-- at the end of a walk no packet is unfinished
ends_whole : (walk : State) → ended walk ≡ Ok walk → walk.progress.unfinished ≡ false
unfolding ended
ends_whole walk h = elim walk.progress.unfinished as (λ b. (if is_none walk.track then Err NoTrack else if b || nat_lt walk.progress.packets 3 then Err UnfinishedPacket else Ok walk) ≡ Ok walk → b ≡ false) [
  | true ↦ λ e. absurd (never (is_none walk.track) e)
  | false ↦ λ e. refl
] h
  where
    never : (b : Bool) → (if b then Err NoTrack else Err UnfinishedPacket) ≡ Ok walk → ⊥
    never true e = cc
    never false e = cc

-- the pieces of a page of the track
pieces_are : (walk : State) (page : Page) → is_of_track walk page ≡ true → track_pieces walk page ≡ segments page.lacing page.body
pieces_are walk page track = ap (λ b. segments (lacing_if b page.lacing) page.body) track

holds_next : (walk : State) (page : Page) (begun : List ℕ) → sum page.lacing ≡ length page.body → is_of_track walk page ≡ true → step walk page ≡ Ok (stepped walk page) → Holds walk.progress begun
    → Holds (stepped walk page).progress (left_from begun (segments page.lacing page.body))
holds_next walk page begun shape track ok holds = subst (λ pieces. Holds (stepped walk page).progress (left_from begun pieces)) (pieces_are walk page track) (walk_holds walk (stepped walk page) page begun shape ok holds)

-- no packet is left unfinished behind all pages
nothing_left : (shift : ℕ) (walk : State) (begun bytes : List ℕ) (pages : List Page) → ArePages bytes pages → GoesOver shift walk pages → Holds walk.progress begun → left_from begun (segments_of pages) ≡ []
unfolding GoesOver ArePages segments_of left_from
nothing_left shift walk begun bytes [] are goes holds = holds.whole (ends_whole walk goes)
nothing_left shift walk begun bytes (page ∷ pages) are goes holds =
    let pieces : List Piece = segments page.lacing page.body in
    let kept : goes.0.progress ≡ (stepped walk page).progress = settled_keeps (stepped walk page) goes.0 shift goes.3 in
    left_goes_on begun pieces (segments_of pages)
    ∙ nothing_left shift goes.0 (left_from begun pieces) (drop (bytes_of_page page) bytes) pages are.1 goes.4
    (subst (λ known. Holds known (left_from begun pieces)) (sym kept) (holds_next walk page begun (page_shape bytes page are.0) goes.1 goes.2 holds))

-- a packet that goes on is as short as the whole
front_short : (front : List ℕ) (pieces : List Piece) → left_from front pieces ≡ [] → All (λ packet. length packet ≤ most_bytes) (packets_from front pieces) → length front ≤ most_bytes
unfolding left_from packets_from
front_short front [] none short = omega (arith, ap length none)
front_short front (piece ∷ pieces) none short =
    elim piece.ends as (λ b. (if b then left_from [] pieces else left_from (front ++ piece.bytes) pieces) ≡ [] → All (λ packet. length packet ≤ most_bytes) (if b then (front ++ piece.bytes) ∷ packets_from [] pieces else packets_from (front ++ piece.bytes) pieces) → length front ≤ most_bytes) [
      | true ↦ λ e all. let first : length (front ++ piece.bytes) ≤ most_bytes = all 0 [] (omega arith) in omega (arith, first, length-append front piece.bytes)
      | false ↦ λ e all. omega (arith, front_short (front ++ piece.bytes) pieces e all, length-append front piece.bytes)
    ] none short

-- the checks of a page's packets
page_passes : (before : Before) (at : ℕ) (page : Page) (said : Said) → packets_over at before.walk.progress.packets before.walk.progress.last_key before.said (packets_on before page) ≡ Ok said
    → length (left_from before.begun (track_pieces before.walk page)) ≤ most_bytes → pieces_over before at (track_pieces before.walk page) ≡ Ok said
page_passes before at page said over short =
    ap (λ read. read >>= left_over at (after_pieces before.walk.progress (track_pieces before.walk page)).packets (left_from before.begun (track_pieces before.walk page))) over
    ∙ ap (λ b. if b then Err (fault_at at (after_pieces before.walk.progress (track_pieces before.walk page)).packets TooLarge) else Ok said) (le-ltb most_bytes (length (left_from before.begun (track_pieces before.walk page))) short)

-- the checks of one page
checks_pass : (before : Before) (at : ℕ) (page : Page) (said : Said) (found : State) → step before.walk page ≡ Ok (stepped before.walk page) → pieces_over before at (track_pieces before.walk page) ≡ Ok said
    → settled (stepped before.walk page) (shift_of said) ≡ Ok found → page_checks before at page ≡ Ok (with_pieces before (track_pieces before.walk page) said found)
unfolding page_checks
checks_pass before at page said found steps passes settles =
    ap (λ read. in_link at read >>= (λ walk. pieces_over before at (track_pieces before.walk page) >>= (λ said. in_link at (settled walk (shift_of said)) >>= (λ walk. Ok (with_pieces before (track_pieces before.walk page) said walk))))) steps
    ∙ ap (λ read. read >>= (λ said. in_link at (settled (stepped before.walk page) (shift_of said)) >>= (λ walk. Ok (with_pieces before (track_pieces before.walk page) said walk)))) passes
    ∙ ap (λ read. in_link at read >>= (λ walk. Ok (with_pieces before (track_pieces before.walk page) said walk))) settles

-- behind all pages the verdict is the packets
end_judged : (before : Before) (packets : List (List ℕ)) (at : ℕ) (bytes : List ℕ) → bytes ≡ [] → ended before.walk ≡ Ok before.walk → verdict_here before packets at bytes ≡ Some (Ok (packets ++ []))
unfolding verdict_here
end_judged before packets at bytes none ends =
    ap (verdict_here before packets at) none ∙ ap (λ read. Some (in_link at read >>= (λ walk. Ok packets))) ends ∙ ap (λ all. Some (Ok all)) (sym (append-nil packets))

-- what judging knows before pages over which a walk goes, whose packets pass
record Passes (shift : ℕ) (before : Before) (rest : List (List ℕ)) : Type 0 where
  holds : Holds before.walk.progress before.begun
  fits : before.walk.progress.packets ≤ 2 ^ 64 - 1
  tells : Tells shift before.said rest
  final : Said
  over : packets_over 0 before.walk.progress.packets before.walk.progress.last_key before.said rest ≡ Ok final

judges_on : (shift : ℕ) (before : Before) (packets : List (List ℕ)) (at : ℕ) (bytes : List ℕ) (pages : List Page) → ArePages bytes pages → GoesOver shift before.walk pages
    → Passes shift before (packets_from before.begun (segments_of pages)) → Judges before packets at bytes pages (Ok (packets ++ packets_from before.begun (segments_of pages)))
unfolding Judges ArePages GoesOver segments_of packets_from
judges_on shift before packets at bytes [] are goes passes = end_judged before packets at bytes are goes
judges_on shift before packets at bytes (page ∷ pages) are goes passes =
    let walk : State = before.walk in
    let pieces : List Piece = segments page.lacing page.body in
    let here : List (List ℕ) = packets_from before.begun pieces in
    let left : List ℕ = left_from before.begun pieces in
    let rest : List (List ℕ) = packets_from left (segments_of pages) in
    let same : track_pieces walk page ≡ pieces = pieces_are walk page goes.1 in
    let shape : sum page.lacing ≡ length page.body = page_shape bytes page are.0 in
    let all : packets_from before.begun (pieces ++ segments_of pages) ≡ here ++ rest = packets_go_on before.begun pieces (segments_of pages) in
    let parts = over_append 0 walk.progress.packets walk.progress.last_key before.said passes.final here rest (subst (λ ps. packets_over 0 walk.progress.packets walk.progress.last_key before.said ps ≡ Ok passes.final) all passes.over) in
    let told = tells_over shift 0 walk.progress.packets walk.progress.last_key before.said parts.0 here rest (subst (Tells shift before.said) all passes.tells) parts.1 in
    let kept : goes.0.progress ≡ (stepped walk page).progress = settled_keeps (stepped walk page) goes.0 shift goes.3 in
    let count : goes.0.progress.packets ≡ count_after walk.progress.packets here = ap (λ (k : Progress). k.packets) kept ∙ packets_counted walk.progress before.begun pieces passes.fits ∙ sym (count_is walk.progress.packets here passes.fits) in
    let key : goes.0.progress.last_key ≡ last_key_among walk.progress.packets walk.progress.last_key here = ap (λ (k : Progress). k.last_key) kept ∙ last_key_of_page walk.progress before.begun page.lacing page.body shape passes.holds in
    let holds : Holds goes.0.progress left = subst (λ known. Holds known left) (sym kept) (holds_next walk page before.begun shape goes.1 goes.2 passes.holds) in
    let short : length left ≤ most_bytes = front_short left (segments_of pages) (nothing_left shift goes.0 left (drop (bytes_of_page page) bytes) pages are.1 goes.4 holds)
    (packets_short 0 (count_after walk.progress.packets here) (last_key_among walk.progress.packets walk.progress.last_key here) parts.0 passes.final rest parts.2) in
    let over : pieces_over before at (track_pieces walk page) ≡ Ok parts.0 = page_passes before at page parts.0
    (subst (λ ps. packets_over at walk.progress.packets walk.progress.last_key before.said (packets_from before.begun ps) ≡ Ok parts.0) (sym same) (over_anywhere 0 at walk.progress.packets walk.progress.last_key before.said parts.0 here parts.1))
    (subst (λ ps. length (left_from before.begun ps) ≤ most_bytes) (sym same) short) in
    let settles : settled (stepped walk page) (shift_of parts.0) ≡ Ok goes.0 = settled_by (stepped walk page) goes.0 shift (shift_of parts.0) goes.3 (shift_there walk page before.begun shift (shift_of parts.0) passes.fits told.0) in
    let next : Before = with_pieces before (track_pieces walk page) parts.0 goes.0 in
    let left_same : next.begun ≡ left = ap (left_from before.begun) same in
    let rest_same : packets_from next.begun (segments_of pages) ≡ rest = ap (λ front. packets_from front (segments_of pages)) left_same in
    let on : Passes shift next (packets_from next.begun (segments_of pages)) = record {
      holds = subst (Holds goes.0.progress) (sym left_same) holds;
      fits = omega (arith, count, count_is walk.progress.packets here passes.fits);
      tells = subst (Tells shift parts.0) (sym rest_same) told.1;
      final = passes.final;
      over = subst (λ ps. packets_over 0 goes.0.progress.packets goes.0.progress.last_key parts.0 ps ≡ Ok passes.final) (sym rest_same) (rw (count, key) parts.2);
    } in
    let joined : (packets ++ packets_on before page) ++ packets_from next.begun (segments_of pages) ≡ packets ++ packets_from before.begun (pieces ++ segments_of pages) =
    append_assoc packets (packets_on before page) (packets_from next.begun (segments_of pages)) ∙ ap (λ ps. packets ++ ps) ((λ i. packets_from before.begun (same i) ++ rest_same i) ∙ sym all) in (
      are.0,
      next,
      checks_pass before at page parts.0 goes.0 goes.2 over settles,
      subst (λ ps. Judges next (packets ++ packets_on before page) (at + bytes_of_page page) (drop (bytes_of_page page) bytes) pages (Ok ps)) joined
          (judges_on shift next (packets ++ packets_on before page) (at + bytes_of_page page) (drop (bytes_of_page page) bytes) pages are.1 goes.4 on),
    )

faultless : (packets : List (List ℕ)) → AreFaultless packets → (final : Said) × (packets_over 0 0 None Start packets ≡ Ok final)
faultless packets h = go (packets_over 0 0 None Start packets) refl h
  where
    go : (read : Result Said Fault) → packets_over 0 0 None Start packets ≡ read → IsOk read → (final : Said) × (packets_over 0 0 None Start packets ≡ Ok final)
    go (Ok final) e ok = (final, e)
    go (Err fault) e ok = absurd (true≢false (sym ok))

-- pages over which a walk goes from its start, with packets that have no fault, are judged as a file with these packets
pub pages_judged : (header : Header) (bytes ident : List ℕ) (more : List (List ℕ)) (pages : List Page) → ArePages bytes pages → packets_of pages ≡ ident ∷ more → ident_of ident ≡ Ok header → GoesOver header.shift start pages
    → AreFaultless (ident ∷ more) → Judged bytes (Ok (ident ∷ more))
unfolding Judged packets_of Tells
pages_judged header bytes ident more pages are carried read goes ok =
    let final = faultless (ident ∷ more) ok in
    let passes : Passes header.shift nothing (packets_from [] (segments_of pages)) = record {
      holds = start_holds;
      fits = omega arith;
      tells = subst (Tells header.shift Start) (sym carried) (header, read, refl);
      final = final.0;
      over = subst (λ ps. packets_over 0 0 None Start ps ≡ Ok final.0) (sym carried) final.1;
    } in
    record { pages = pages; judges = subst (λ ps. Judges nothing [] 0 bytes pages (Ok ps)) carried (judges_on header.shift nothing [] 0 bytes pages are goes passes) }

rule_met : (b : Bool) (fault : PacketFault) (rules : List (Rule PacketFault)) (header read : Header) → unless (if b then first_fault rules else Some fault) header ≡ Ok read → b ≡ true
rule_met true fault rules header read h = refl
rule_met false fault rules header read h = cc

-- an identification header begins the track
ident_begins : (ident : List ℕ) (header : Header) → ident_of ident ≡ Ok header → begins_track ident ≡ true
unfolding ident_of ident_rules first_fault
ident_begins ident header h =
    let named : starts_with nat_eq ident ident_name ≡ true = rule_met (starts_with nat_eq ident ident_name) NotIdent ((nat_le ident_length (length ident), Ended) ∷ header_rules (header_in ident)) (header_in ident) header h in
    let is : ident_name ≡ take 7 ident = (bytes_eq-Decides ident_name (take 7 ident)).0 named in
    let long : 7 ≤ length ident = omega (arith, ap length is, length-take 7 ident) in
    let same : bytes_eq (take 7 ident) magic ≡ true = (bytes_eq-Decides (take 7 ident) magic).1 (sym is) in
    rw (le-ltb (length ident) 7 long, same) refl

-- the bytes of a stream whose packets have no fault are judged as a file with these packets
pub stream_judged : (least : ℕ) (s : Stream) (frames : List (List ℕ)) (header : Header) → HasRoom s frames → length s.ident < 65025 → ident_of s.ident ≡ Ok header → header.shift ≡ s.shift
    → AreFaultless (s.ident ∷ s.comment ∷ s.setup ∷ frames) → Judged (paged least s frames) (Ok (s.ident ∷ s.comment ∷ s.setup ∷ frames))
stream_judged least s frames header room short read shift ok =
    let spaced : AreSpaced s.shift (map is_key frames) = subst (λ n. AreSpaced n (map is_key frames)) shift (faultless_spaced (s.ident ∷ s.comment ∷ s.setup ∷ frames) header (omega arith) ok read) in
    let is : IsOfTrack s frames = record { room = room; begins = ident_begins s.ident header read; short = short; spaced = spaced } in
    pages_judged header (paged least s frames) s.ident (s.comment ∷ s.setup ∷ frames) (paged_list least s frames) (ArePages-paged least s frames room) (packets_of-paged_list least s frames room) read
    (subst (λ n. GoesOver n start (paged_list least s frames)) (sym shift) (stream_goes least s frames is)) ok
