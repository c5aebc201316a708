-- A judged file has faultless packets: the checks of its pages are those of its packets one after the other. Writers of a source's packets cite these.
use Rattle.std.proofs.Common.{◌≡◌, ℕ, zero, suc, min, ◌+◌, ◌-◌, ◌^◌, ◌%◌, ◌<◌, ◌≤◌, ◌&&◌, Bool, true, false, List, [], ◌∷◌, ◌++◌, length, length-append, length-take, length-drop, drop, sum, map, get_or, Option, Some, None, Result, Ok, Err, IsOk, is_ok, is_some, All, nat_lt, if◌then◌else◌, refl, ap, sym, subst, ◌∙◌, arith}
use Rattle.std.proofs.lemmas.Bool.{lt-ltb}
use Rattle.std.proofs.lemmas.List.{append-nil, append_assoc, get_or-drop}
use Rattle.std.proofs.lemmas.List.Elements.{All-nil, All-cons}
use Rattle.vid_base.specs.Reading.{◌>>=◌, and_then}
use Rattle.ogg_page.specs.Page.{Page, page_at_front, bytes_of_page, lacing_of, body_of}
use Rattle.ogg_page.specs.Packets.{Piece, left_from}
use Rattle.ogg_page.proofs.PageLemmas.{page_is}
use Rattle.ogg_link.specs.Track.{is_key}
use Rattle.ogg_link.specs.declared.state.State.{State}
use Rattle.ogg_link.specs.declared.state.Progress.{Progress}
use Rattle.ogg_link.specs.declared.fault.LinkFault.{LinkFault}
use Rattle.ogg_link.specs.Progress.{counted, key_after, one_more, after_pieces, last_key_among, Holds}
use Rattle.ogg_link.specs.Walk.{step as walk_step, ended, is_of_track}
use Rattle.ogg_link.specs.Granules.{settled}
use Rattle.ogg_link.proofs.StepLemmas.{start_holds, progress_behind, walk_holds, track_go_on}
use Rattle.ogg_link.proofs.KeyLemmas.{last_key_of_packets}
use Rattle.ogg_link.proofs.ProgressLemmas.{packets_counted}
use Rattle.ogg_link.proofs.EndLemmas.{settled_keeps, three_ended}
use Rattle.thr_ident.specs.Header.{Header}
use Rattle.thr_ident.specs.Ident.{ident_of}
use Rattle.thr_ident.specs.Comment.{comment_of}
use Rattle.thr_setup.specs.Setup.{Contents, setup_of}
use Rattle.thr_ident.specs.Shape.{shape_of}
use Rattle.thr_frame.specs.CodedFrame.{CodedFrame}
use Rattle.thr_frame.specs.Parsed.{frame_in}
use Rattle.thr_frame.specs.Rebuilt.{Pair}
use Rattle.thr_frame.specs.Step.{step, state_after, next_state}
use Rattle.src_index.specs.declared.fault.Fault.{Fault}
use Rattle.src_index.specs.Said.{Said, Start, WithIdent, WithComment, WithSetup, shift_of}
use Rattle.ogg_link.specs.Spacing.{AreSpaced}
use Rattle.src_index.specs.Track.{frames_of, frame_at, packet_at}
use Rattle.src_index.specs.Quantiser.{quantisers}
use Rattle.src_index.specs.Checks.{packet_step, packets_over, fault_at, said_step, is_near, most_packets, AreFaultless}
use Rattle.src_index.specs.Holding.{IsSpaced}
use Rattle.src_index.specs.Judge.{Before, nothing, track_pieces, packets_on, page_checks, pieces_over, with_pieces, in_link, end_check, end_verdict, verdict_here, failing, front_checks, Judges, Judged, Verdict}
use Rattle.src_index.proofs.CheckLemmas.{bind_ok, and_then_ok, step_passed, frame_leaves, frame_near, frame_says, page_packets}
use Rattle.src_index.proofs.LetterLemmas.{ok_value}
use Rattle.src_index.proofs.SpacingLemmas.{spaced_more, nothing_spaced}

-- how many packets have ended behind these
unfoldable pub count_after : ℕ → List (List ℕ) → ℕ
count_after n [] = n
count_after n (packet ∷ packets) = count_after (one_more n) packets

pub count_is : (n : ℕ) (packets : List (List ℕ)) → n ≤ 2 ^ 64 - 1 → count_after n packets ≡ min (n + length packets) (2 ^ 64 - 1)
unfolding count_after
count_is n [] h = omega (arith, h)
count_is n (packet ∷ packets) h = omega (arith, h, count_is (one_more n) packets (omega arith))

-- packets behind packets
over_more : (at n : ℕ) (last : Option ℕ) (said next : Said) (xs ys : List (List ℕ)) → packets_over at n last said xs ≡ Ok next → packets_over at n last said (xs ++ ys) ≡ packets_over at (count_after n xs) (last_key_among n last xs) next ys
unfolding packets_over count_after last_key_among
over_more at n last said next [] ys h = let same : said ≡ next = cc in ap (λ s. packets_over at n last s ys) same
over_more at n last said next (x ∷ xs) ys h =
    let first = and_then_ok (packet_step said (counted n last x) x) (λ more. packets_over at (one_more n) (key_after (is_key x) n last) more xs) (fault_at at n) next h in
    ap (λ read. and_then read (λ more. packets_over at (one_more n) (key_after (is_key x) n last) more (xs ++ ys)) (fault_at at n)) first.1
    ∙ over_more at (one_more n) (key_after (is_key x) n last) first.0 next xs ys first.2

last_more : (n : ℕ) (last : Option ℕ) (xs ys : List (List ℕ)) → last_key_among n last (xs ++ ys) ≡ last_key_among (count_after n xs) (last_key_among n last xs) ys
unfolding count_after last_key_among
last_more n last [] ys = refl
last_more n last (x ∷ xs) ys = last_more (one_more n) (key_after (is_key x) n last) xs ys

-- packets without a fault have none wherever they stand
pub over_anywhere : (at other n : ℕ) (last : Option ℕ) (said next : Said) (xs : List (List ℕ)) → packets_over at n last said xs ≡ Ok next → packets_over other n last said xs ≡ Ok next
unfolding packets_over
over_anywhere at other n last said next [] h = h
over_anywhere at other n last said next (x ∷ xs) h =
    let first = and_then_ok (packet_step said (counted n last x) x) (λ more. packets_over at (one_more n) (key_after (is_key x) n last) more xs) (fault_at at n) next h in
    ap (λ read. and_then read (λ more. packets_over other (one_more n) (key_after (is_key x) n last) more xs) (fault_at other n)) first.1
    ∙ over_anywhere at other (one_more n) (key_after (is_key x) n last) first.0 next xs first.2

-- what judging knows behind pages is of these packets
record Knows (before : Before) (packets : List (List ℕ)) : Type 0 where
  over : packets_over 0 0 None Start packets ≡ Ok before.said
  count : before.walk.progress.packets ≡ count_after 0 packets
  last : before.walk.progress.last_key ≡ last_key_among 0 None packets
  holds : Holds before.walk.progress before.begun

nothing_known : Knows nothing []
unfolding packets_over count_after last_key_among
nothing_known = record { over = refl; count = refl; last = refl; holds = start_holds }

-- the lacing values of a page count its body
pub page_shape : (bytes : List ℕ) (page : Page) → page_at_front bytes ≡ Ok page → sum page.lacing ≡ length page.body
page_shape bytes page e =
    let is = page_is bytes page e in
    let lacing : lacing_of bytes ≡ page.lacing = ap (λ (p : Page). p.lacing) is.2 in
    let body : body_of bytes ≡ page.body = ap (λ (p : Page). p.body) is.2 in
    omega (arith, ap sum lacing, ap length body, is.1, length-take (sum (lacing_of bytes)) (drop (27 + get_or bytes 26 0) bytes), length-drop (27 + get_or bytes 26 0) bytes)

-- the checks of a page that passed
record Passed (before next : Before) (at : ℕ) (page : Page) : Type 0 where
  walk : State
  said : Said
  settles : State
  stepped : walk_step before.walk page ≡ Ok walk
  over : pieces_over before at (track_pieces before.walk page) ≡ Ok said
  settled_is : settled walk (shift_of said) ≡ Ok settles
  next_is : with_pieces before (track_pieces before.walk page) said settles ≡ next

linked : (at : ℕ) (read : Result State LinkFault) (state : State) → in_link at read ≡ Ok state → read ≡ Ok state
linked at (Ok other) state h = cc
linked at (Err fault) state h = cc

checks_passed : (before next : Before) (at : ℕ) (page : Page) → page_checks before at page ≡ Ok next → Passed before next at page
unfolding page_checks
checks_passed before next at page h =
    let pieces : List Piece = track_pieces before.walk page in
    let one = bind_ok (in_link at (walk_step before.walk page)) (λ walk. pieces_over before at pieces >>= (λ said. in_link at (settled walk (shift_of said)) >>= (λ settles. Ok (with_pieces before pieces said settles)))) next h in
    let two = bind_ok (pieces_over before at pieces) (λ said. in_link at (settled one.0 (shift_of said)) >>= (λ settles. Ok (with_pieces before pieces said settles))) next one.2 in
    let three = bind_ok (in_link at (settled one.0 (shift_of two.0))) (λ settles. Ok (with_pieces before pieces two.0 settles)) next two.2 in
    record {
      walk = one.0;
      said = two.0;
      settles = three.0;
      stepped = linked at (walk_step before.walk page) one.0 one.1;
      over = two.1;
      settled_is = linked at (settled one.0 (shift_of two.0)) three.0 three.1;
      next_is = cc;
    }

-- a page more
page_known : (before next : Before) (packets : List (List ℕ)) (at : ℕ) (bytes : List ℕ) (page : Page) → page_at_front bytes ≡ Ok page → Passed before next at page → Knows before packets → Knows next (packets ++ packets_on before page)
page_known before next packets at bytes page e p k =
    let pieces : List Piece = track_pieces before.walk page in
    let on : List (List ℕ) = packets_on before page in
    let book : Progress = before.walk.progress in
    let behind : p.settles.progress ≡ after_pieces book pieces = settled_keeps p.walk p.settles (shift_of p.said) p.settled_is ∙ progress_behind before.walk p.walk page p.stepped in
    let fits : book.packets ≤ 2 ^ 64 - 1 = omega (arith, k.count, count_is 0 packets (omega arith)) in
    let shape = page_shape bytes page e in
    subst (λ b. Knows b (packets ++ on)) p.next_is (record {
      over = over_more 0 0 None Start before.said packets on k.over
          ∙ (λ i. packets_over 0 (sym k.count i) (sym k.last i) before.said on)
          ∙ over_anywhere at 0 book.packets book.last_key before.said p.said on (page_packets at book before.said p.said before.begun pieces p.over);
      count = ap (λ (b : Progress). b.packets) behind
          ∙ omega (arith, k.count, packets_counted book before.begun pieces fits, count_is 0 packets (omega arith), count_is 0 (packets ++ on) (omega arith), length-append packets on);
      last = ap (λ (b : Progress). b.last_key) behind
          ∙ last_key_of_packets book before.begun pieces k.holds (track_go_on (is_of_track before.walk page) page.lacing page.body shape)
          ∙ (λ i. last_key_among (k.count i) (k.last i) on) ∙ sym (last_more 0 None packets on);
      holds = subst (λ (b : Progress). Holds b (left_from before.begun pieces)) (progress_behind before.walk p.walk page p.stepped ∙ sym behind) (walk_holds before.walk p.walk page before.begun shape p.stepped k.holds);
    })

-- where a verdict falls that is no fault, the file ends
end_here : (before : Before) (packets all : List (List ℕ)) (at : ℕ) (bytes : List ℕ) → verdict_here before packets at bytes ≡ Some (Ok all) → (walk : State) × (ended before.walk ≡ Ok walk) × (packets ≡ all)
unfolding verdict_here
end_here before packets all at [] h =
    let V : Verdict = end_verdict before packets at in
    let W : Verdict = Ok all in
    let falls : V ≡ W = cc in
    let read = bind_ok (end_check before at) (λ walk. Ok packets) all falls in
    (read.0, linked at (ended before.walk) read.0 read.1, cc)
end_here before packets all at (byte ∷ bytes) h = absurd (no_ok (front_checks before at (byte ∷ bytes)) h)
  where
    no_ok : (read : Result Before Fault) → failing read ≡ Some (Ok all) → ⊥
    no_ok (Ok next) e = cc
    no_ok (Err fault) e = cc

-- behind its pages
judges_known : (before : Before) (packets all : List (List ℕ)) (at : ℕ) (bytes : List ℕ) (pages : List Page) → Judges before packets at bytes pages (Ok all) → Knows before packets → (3 ≤ length all) × AreFaultless all
unfolding Judges
judges_known before packets all at bytes [] h k =
    let end = end_here before packets all at bytes h in
    let some : 3 ≤ length packets = omega (arith, three_ended before.walk end.0 end.1, k.count, count_is 0 packets (omega arith)) in
    subst (λ ps. (3 ≤ length ps) × AreFaultless ps) end.2 (some, ap is_ok k.over)
judges_known before packets all at bytes (page ∷ pages) h k =
    judges_known h.1 (packets ++ packets_on before page) all (at + bytes_of_page page) (drop (bytes_of_page page) bytes) pages h.3 (page_known before h.1 packets at bytes page h.0 (checks_passed before h.1 at page h.2) k)

pub judged_faultless : (bytes : List ℕ) (packets : List (List ℕ)) → Judged bytes (Ok packets) → (3 ≤ length packets) × AreFaultless packets
unfolding Judged
judged_faultless bytes packets h = judges_known nothing [] packets 0 bytes h.pages h.judges nothing_known

-- what the headers say, and the checks of the frames behind them
pub record Headed (packets : List (List ℕ)) : Type 0 where
  pub header : Header
  pub contents : Contents
  pub said : Said
  pub ident : ident_of (packet_at packets 0) ≡ Ok header
  pub comment : IsOk (comment_of (packet_at packets 1))
  pub setup : setup_of (packet_at packets 2) ≡ Ok contents
  pub frames : packets_over 0 3 None (WithSetup header contents) (frames_of packets) ≡ Ok said

-- a header is no key frame
pub no_key : (key : Bool) (last : Option ℕ) → (if key && false then Some 0 else last) ≡ last
no_key true last = refl
no_key false last = refl

pub headed : (packets : List (List ℕ)) → 3 ≤ length packets → AreFaultless packets → Headed packets
unfolding packets_over
headed [] some h = absurd (omega (arith, some))
headed (a ∷ []) some h = absurd (omega (arith, some))
headed (a ∷ b ∷ []) some h = absurd (omega (arith, some))
headed (a ∷ b ∷ c ∷ frames) some h =
    let read = ok_value (packets_over 0 0 None Start (a ∷ b ∷ c ∷ frames)) h in
    let first = and_then_ok (packet_step Start (counted 0 None a) a) (λ next. packets_over 0 1 (key_after (is_key a) 0 None) next (b ∷ c ∷ frames)) (fault_at 0 0) read.0 read.1 in
    let ident = bind_ok (ident_of a) (λ header. Ok (WithIdent header)) first.0 (step_passed Start first.0 (counted 0 None a) a first.1).1 in
    let header : Header = ident.0 in
    let k1 = key_after (is_key a) 0 None in
    let second = and_then_ok (packet_step first.0 (counted 1 k1 b) b) (λ next. packets_over 0 2 (key_after (is_key b) 1 k1) next (c ∷ frames)) (fault_at 0 1) read.0 first.2 in
    let one : WithIdent header ≡ first.0 = cc in
    let comment = bind_ok (comment_of b) (λ r. Ok (WithComment header)) second.0 (ap (λ s. said_step s (counted 1 k1 b) b) one ∙ (step_passed first.0 second.0 (counted 1 k1 b) b second.1).1) in
    let k2 = key_after (is_key b) 1 k1 in
    let third = and_then_ok (packet_step second.0 (counted 2 k2 c) c) (λ next. packets_over 0 3 (key_after (is_key c) 2 k2) next frames) (fault_at 0 2) read.0 second.2 in
    let two : WithComment header ≡ second.0 = cc in
    let setup = bind_ok (setup_of c) (λ contents. Ok (WithSetup header contents)) third.0 (ap (λ s. said_step s (counted 2 k2 c) c) two ∙ (step_passed second.0 third.0 (counted 2 k2 c) c third.1).1) in
    let three : WithSetup header setup.0 ≡ third.0 = cc in
    let none : key_after (is_key c) 2 k2 ≡ None = no_key (is_key c) k2 ∙ no_key (is_key b) k1 ∙ no_key (is_key a) None in
    record {
      header = header;
      contents = setup.0;
      said = read.0;
      ident = ident.1;
      comment = ap is_ok comment.1;
      setup = setup.1;
      frames = (λ i. packets_over 0 3 (sym none i) (three i) frames) ∙ third.2;
    }

-- frames without a fault are spaced
frames_spaced : (n : ℕ) (last : Option ℕ) (header : Header) (contents : Contents) (next : Said) (keys : List Bool) (frames : List (List ℕ)) → packets_over 0 n last (WithSetup header contents) frames ≡ Ok next → 3 ≤ n
    → length keys ≡ n - 3 → IsSpaced header.shift (n - 3) last keys → AreSpaced header.shift (keys ++ map is_key frames)
unfolding packets_over
frames_spaced n last header contents next keys [] h many count s = subst (AreSpaced header.shift) (sym (append-nil keys)) s.spaced
frames_spaced n last header contents next keys (x ∷ frames) h many count s =
    let first = and_then_ok (packet_step (WithSetup header contents) (counted n last x) x) (λ more. packets_over 0 (one_more n) (key_after (is_key x) n last) more frames) (fault_at 0 n) next h in
    let passes = step_passed (WithSetup header contents) first.0 (counted n last x) x first.1 in
    let same : first.0 ≡ WithSetup header contents = frame_leaves header contents first.0 n last x passes.1 in
    let near = frame_near header contents n last x (passes.1 ∙ ap (λ s. Ok s) same) in
    let last_is : key_after (is_key x) n last ≡ (if is_key x then Some (n - 3) else last) = ap (λ b. if is_key x && b then Some (n - 3) else last) (lt-ltb 2 n (omega (arith, many))) ∙ plain (is_key x) in
    let more = spaced_more header.shift (n - 3) last keys (is_key x) s count (ap (is_near header.shift (n - 3)) (sym last_is) ∙ near) in
    let up : n - 3 + 1 ≡ one_more n - 3 = omega (arith, many, passes.0) in
    let later : IsSpaced header.shift (one_more n - 3) (key_after (is_key x) n last) (keys ++ is_key x ∷ []) = subst (λ k. IsSpaced header.shift k (key_after (is_key x) n last) (keys ++ is_key x ∷ [])) up (subst (λ k. IsSpaced header.shift (n - 3 + 1) k (keys ++ is_key x ∷ [])) (sym last_is) more) in
    subst (AreSpaced header.shift) (append_assoc keys (is_key x ∷ []) (map is_key frames))
    (frames_spaced (one_more n) (key_after (is_key x) n last) header contents next (keys ++ is_key x ∷ []) frames (ap (λ s. packets_over 0 (one_more n) (key_after (is_key x) n last) s frames) (sym same) ∙ first.2)
    (omega (arith, many)) (omega (arith, count, up, length-append keys (is_key x ∷ []))) later)
  where
    plain : (key : Bool) → (if key && true then Some (n - 3) else last) ≡ (if key then Some (n - 3) else last)
    plain true = refl
    plain false = refl

pub faultless_spaced : (packets : List (List ℕ)) (header : Header) → 3 ≤ length packets → AreFaultless packets → ident_of (packet_at packets 0) ≡ Ok header → AreSpaced header.shift (map is_key (frames_of packets))
faultless_spaced packets header some h is =
    let known = headed packets some h in
    let same : known.header ≡ header = cc (known.ident, is) in
    subst (λ (r : Header). AreSpaced r.shift (map is_key (frames_of packets))) same
    (frames_spaced 3 None known.header known.contents known.said [] (frames_of packets) known.frames (omega arith) refl (nothing_spaced known.header.shift))

-- each frame without a fault says something by itself
frames_say : (n : ℕ) (last : Option ℕ) (header : Header) (contents : Contents) (next : Said) (frames : List (List ℕ)) → packets_over 0 n last (WithSetup header contents) frames ≡ Ok next → 3 ≤ n
    → (i : ℕ) → i < length frames → IsOk (frame_in contents (shape_of header) (nat_lt 0 (n - 3 + i)) (get_or frames i []))
unfolding packets_over
frames_say n last header contents next [] h many i low = absurd (omega (arith, low))
frames_say n last header contents next (x ∷ frames) h many i low =
    let first = and_then_ok (packet_step (WithSetup header contents) (counted n last x) x) (λ more. packets_over 0 (one_more n) (key_after (is_key x) n last) more frames) (fault_at 0 n) next h in
    let passes = step_passed (WithSetup header contents) first.0 (counted n last x) x first.1 in
    let same : first.0 ≡ WithSetup header contents = frame_leaves header contents first.0 n last x passes.1 in
    let rest : packets_over 0 (one_more n) (key_after (is_key x) n last) (WithSetup header contents) frames ≡ Ok next = ap (λ s. packets_over 0 (one_more n) (key_after (is_key x) n last) s frames) (sym same) ∙ first.2 in
    at i low (frame_says header contents first.0 n last x passes.1) (frames_say (one_more n) (key_after (is_key x) n last) header contents next frames rest (omega (arith, many))) passes.0
  where
    at : (i : ℕ) → i < length (x ∷ frames) → (coded : Option CodedFrame) × (frame_in contents (shape_of header) (nat_lt 0 (n - 3)) x ≡ Ok coded)
        → ((k : ℕ) → k < length frames → IsOk (frame_in contents (shape_of header) (nat_lt 0 (one_more n - 3 + k)) (get_or frames k []))) → n < most_packets
        → IsOk (frame_in contents (shape_of header) (nat_lt 0 (n - 3 + i)) (get_or (x ∷ frames) i []))
    at zero low says later few = let none : n - 3 + 0 ≡ n - 3 = omega arith in ap is_ok (ap (λ k. frame_in contents (shape_of header) (nat_lt 0 k) x) none ∙ says.1)
    at (suc k) low says later few =
        let up : one_more n - 3 + k ≡ n - 3 + suc k = omega (arith, many, few) in
        subst (λ m. IsOk (frame_in contents (shape_of header) (nat_lt 0 m) (get_or frames k []))) up (later k (omega (arith, low)))

pub faultless_say : (packets : List (List ℕ)) (header : Header) (contents : Contents) (n : ℕ) → 3 ≤ length packets → AreFaultless packets → ident_of (packet_at packets 0) ≡ Ok header → setup_of (packet_at packets 2) ≡ Ok contents
    → n < length (frames_of packets) → IsOk (frame_in contents (shape_of header) (nat_lt 0 n) (frame_at packets n))
faultless_say packets header contents n some h ident setup low =
    let known = headed packets some h in
    let same : known.header ≡ header = cc (known.ident, ident) in
    let said : known.contents ≡ contents = cc (known.setup, setup) in
    let there : get_or (drop 3 packets) n [] ≡ frame_at packets n = get_or-drop 3 packets n [] ∙ ap (λ k. get_or packets k []) (omega arith) in
    let says : IsOk (frame_in known.contents (shape_of known.header) (nat_lt 0 (0 + n)) (get_or (frames_of packets) n [])) = frames_say 3 None known.header known.contents known.said (frames_of packets) known.frames (omega arith) n low in
    let plain : 0 + n ≡ n = omega arith in
    subst IsOk (λ i. frame_in (said i) (shape_of (same i)) (nat_lt 0 (plain i)) (there i)) says

-- so each decodes from the state of those before it
frames_decode : (n : ℕ) (last : Option ℕ) (header : Header) (contents : Contents) (next : Said) (state : Option Pair) (frames : List (List ℕ)) → packets_over 0 n last (WithSetup header contents) frames ≡ Ok next → 3 ≤ n
    → nat_lt 0 (n - 3) ≡ is_some state → IsOk (state_after contents (shape_of header) state frames)
unfolding packets_over state_after step
frames_decode n last header contents next state [] h many began = refl
frames_decode n last header contents next state (x ∷ frames) h many began =
    let first = and_then_ok (packet_step (WithSetup header contents) (counted n last x) x) (λ more. packets_over 0 (one_more n) (key_after (is_key x) n last) more frames) (fault_at 0 n) next h in
    let passes = step_passed (WithSetup header contents) first.0 (counted n last x) x first.1 in
    let same : first.0 ≡ WithSetup header contents = frame_leaves header contents first.0 n last x passes.1 in
    let says = frame_says header contents first.0 n last x passes.1 in
    let read : frame_in contents (shape_of header) (is_some state) x ≡ Ok says.0 = ap (λ b. frame_in contents (shape_of header) b x) (sym began) ∙ says.1 in
    let rest : packets_over 0 (one_more n) (key_after (is_key x) n last) (WithSetup header contents) frames ≡ Ok next = ap (λ s. packets_over 0 (one_more n) (key_after (is_key x) n last) s frames) (sym same) ∙ first.2 in
    let state_is : Pair = next_state contents (shape_of header) state says.0 in
    let later : IsOk (state_after contents (shape_of header) (Some state_is) frames) =
    frames_decode (one_more n) (key_after (is_key x) n last) header contents next (Some state_is) frames rest (omega (arith, many)) (lt-ltb 0 (one_more n - 3) (omega (arith, many, passes.0))) in
    subst (λ r. IsOk (r >>= (λ coded. Ok (next_state contents (shape_of header) state coded)) >>= (λ after. state_after contents (shape_of header) (Some after) frames))) (sym read) later

pub faultless_decode : (packets : List (List ℕ)) (header : Header) (contents : Contents) → 3 ≤ length packets → AreFaultless packets → ident_of (packet_at packets 0) ≡ Ok header → setup_of (packet_at packets 2) ≡ Ok contents
    → IsOk (state_after contents (shape_of header) None (frames_of packets))
faultless_decode packets header contents some h ident setup =
    let known = headed packets some h in
    let same : known.header ≡ header = cc (known.ident, ident) in
    let said : known.contents ≡ contents = cc (known.setup, setup) in
    subst IsOk (λ i. state_after (said i) (shape_of (same i)) None (frames_of packets))
    (frames_decode 3 None known.header known.contents known.said None (frames_of packets) known.frames (omega arith) refl)

-- quantisers are below 64
pub quantisers_small : (before : ℕ) (packets : List (List ℕ)) → before < 64 → All (λ q. q < 64) (quantisers before packets)
unfolding quantisers
quantisers_small before [] h = All-nil (λ (q : ℕ). q < 64)
quantisers_small before ([] ∷ packets) h = All-cons (λ (q : ℕ). q < 64) before (quantisers before packets) h (quantisers_small before packets h)
quantisers_small before ((byte ∷ bytes) ∷ packets) h = All-cons (λ (q : ℕ). q < 64) (byte % 64) (quantisers (byte % 64) packets) (omega arith) (quantisers_small (byte % 64) packets (omega arith))
