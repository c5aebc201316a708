-- Where a verdict falls: at a page, behind it, or at the end; and what judging has kept there. Judging page after page cites
-- these.
use Rattle.std.proofs.Common.{◌≡◌, ℕ, ◌+◌, ◌<◌, ◌≤◌, Bool, true, false, not, List, [], ◌∷◌, ◌++◌, length, length-append, length-take, length-drop, take, drop, sum, All, get_or, Some, Result, Ok, Err, IsOk, IfOk, refl, ap, sym, subst, ◌∙◌, arith, lit<, true≢false}
use Rattle.std.proofs.lemmas.List.{drop-drop, drop-append-le, take-append-le, append-nil, get_or-take}
use Rattle.std.proofs.Math.Seq.{drop-length}
use Rattle.vid_base.specs.Reading.{◌>>=◌}
use Rattle.byteorder.specs.Endian.{little_number}
use Rattle.ogg_page.specs.declared.fault.PageFault.{PageFault}
use Rattle.ogg_page.specs.Page.{Page, page_at_front, bytes_of_page, number_at, lacing_of, body_of}
use Rattle.ogg_page.specs.Packets.{segments, packets_from}
use Rattle.ogg_page.proofs.PageLemmas.{page_is}
use Rattle.ogg_link.specs.declared.state.State.{State}
use Rattle.ogg_link.specs.Walk.{is_of_track}
use Rattle.ogg_link.specs.Parts.{lacing_if}
use Rattle.src_index.specs.declared.fault.Fault.{Fault}
use Rattle.src_index.specs.declared.fault.Fault.TheVariants.{InPacket, InPage, InLink}
use Rattle.src_index.specs.declared.fault.Refusal.{Refusal}
use Rattle.src_index.specs.declared.fault.Refusal.TheVariants.{Bad, ReadFault, NoMem}
use Rattle.src_index.specs.declared.judge.Judging.{Judging}
use Rattle.src_index.specs.Index.{PageMark, Index}
use Rattle.src_index.specs.Checks.{most_bytes}
use Rattle.src_index.specs.Judge.{Before, nothing, Judges, JudgedFrom, Judged, Verdict, page_checks, front_checks, in_page, end_check, end_verdict, verdict_here, failing, packets_on}
use Rattle.src_index.specs.Gather.{IsMarkOf, AreFramesOf, segments_at, segments_along}
use Rattle.src_index.specs.Quantiser.{last_quantiser}
use Rattle.std.proofs.lemmas.List.Elements.{All-nil}
use Rattle.src_index.specs.Kept.{Kept, page_kept, with_page}
use Rattle.src_index.specs.Keeping.{Keeps}
use Rattle.src_index.specs.Holding.{kept_of}
use Rattle.src_index.specs.Seekable.{IsSeekable, IsStart}
use Rattle.src_index.specs.Windows.{OpensTwo}
use Rattle.src_index.specs.Judging.{before_of, Follows, Fails}
use Rattle.src_index.specs.Refusing.{RefusesAs, source_fault}
use Rattle.src_index.specs.Loading.{Answers, IsIndexed, longest}
use Rattle.src_index.specs.Finding.{Finds}
use Rattle.src_index.specs.declared.packets.Packets.{Packets}
use Rattle.src_index.proofs.LetterLemmas.{ok_value}
use Rattle.src_index.proofs.GatherLemmas.{page_keeps}
use Rattle.src_index.proofs.SeekLemmas.{starts_first, starts_more, none_inside, false_inside, all_looked}

-- no check of a page of so many bytes fails: what falls behind it falls before it
judged_page : (before next : Before) (packets : List (List ℕ)) (at count : ℕ) (bytes : List ℕ) (page : Page) (verdict : Verdict) → page_at_front (drop at bytes) ≡ Ok page → page_checks before at page ≡ Ok next
    → count ≡ bytes_of_page page → JudgedFrom next (packets ++ packets_on before page) (at + count) (drop (at + count) bytes) verdict → JudgedFrom before packets at (drop at bytes) verdict
unfolding Judges
judged_page before next packets at count bytes page verdict e f n j =
    let more : List (List ℕ) = packets ++ packets_on before page in
    let behind : JudgedFrom next more (at + count) (drop count (drop at bytes)) verdict = subst (λ xs. JudgedFrom next more (at + count) xs verdict) (sym (drop-drop count at bytes)) j in
    let rest : JudgedFrom next more (at + bytes_of_page page) (drop (bytes_of_page page) (drop at bytes)) verdict = subst (λ k. JudgedFrom next more (at + k) (drop k (drop at bytes)) verdict) n behind in
    record { pages = page ∷ rest.pages; judges = (e, next, f, rest.judges) }

-- a check of the page at the front fails
judged_fault : (before : Before) (packets : List (List ℕ)) (at : ℕ) (bytes : List ℕ) (fault : Fault) → 0 < length bytes → front_checks before at bytes ≡ Err fault → JudgedFrom before packets at bytes (Err fault)
unfolding Judges verdict_here
judged_fault before packets at [] fault h e = absurd (omega arith)
judged_fault before packets at (byte ∷ bytes) fault h e = let here : verdict_here before packets at (byte ∷ bytes) ≡ Some (Err fault) = ap failing e in record { pages = []; judges = here }

-- where a window has a byte, the bytes that it opens have one
opens_some : (window bytes : List ℕ) → OpensTwo window bytes → 0 < length window → 0 < length bytes
opens_some window bytes o h = let e : length bytes ≡ length (window ++ o.rest) = ap length o.whole in omega (arith, length-append window o.rest)

-- there is no page at the front
pub follow_bad : (judging : Judging) (window bytes : List ℕ) (at : ℕ) (fault : PageFault) → OpensTwo window (drop at bytes) → 0 < length window → page_at_front (drop at bytes) ≡ Err fault
    → Follows bytes judging at → Fails (Bad (InPage at fault)) bytes
follow_bad judging window bytes at fault o some e f =
    f.falls (Err (InPage at fault)) (judged_fault (before_of judging) f.packets at (drop at bytes) (InPage at fault) (opens_some window (drop at bytes) o some) (ap (λ read. in_page at read >>= page_checks (before_of judging) at) e))

-- a page is refused
pub follow_refused : (judging : Judging) (window bytes : List ℕ) (at : ℕ) (page : Page) (refusal : Refusal) → OpensTwo window (drop at bytes) → 0 < length window → page_at_front (drop at bytes) ≡ Ok page
    → RefusesAs refusal (page_checks (before_of judging) at page) → Follows bytes judging at → Fails refusal bytes
follow_refused judging window bytes at page (Bad fault) o some e g f =
    f.falls (Err fault) (judged_fault (before_of judging) f.packets at (drop at bytes) fault (opens_some window (drop at bytes) o some) (ap (λ read. in_page at read >>= page_checks (before_of judging) at) e ∙ g))
follow_refused judging window bytes at page ReadFault o some e g f = absurd g
follow_refused judging window bytes at page NoMem o some e g f = tt

-- the checksum field lies in the window
pub field_in : (window bytes : List ℕ) (checksum : ℕ) → OpensTwo window bytes → 27 ≤ length window → checksum ≡ number_at 4 22 window → number_at 4 22 bytes ≡ checksum
field_in window bytes checksum o long e =
    ap (number_at 4 22) o.whole
    ∙ ap (λ xs. little_number 4 (take 4 xs)) (drop-append-le 22 window o.rest (omega (arith, long)))
    ∙ ap (little_number 4) (take-append-le 4 (drop 22 window) o.rest (omega (arith, long, length-drop 22 window)))
    ∙ sym e

-- the segments of a page that stands at a byte are those that its lacing values cut out of the file
page_segments : (bytes : List ℕ) (at checksum : ℕ) (page : Page) → page_at_front (drop at bytes) ≡ Ok page → segments_at bytes (record { at = at; checksum = checksum; lacing = page.lacing }) ≡ segments page.lacing page.body
page_segments bytes at checksum page e =
    let front = drop at bytes in
    let is = page_is front page e in
    let lacing : lacing_of front ≡ page.lacing = ap (λ (p : Page). p.lacing) is.2 in
    let body : body_of front ≡ page.body = ap (λ (p : Page). p.body) is.2 in
    let count : length page.lacing ≡ get_or front 26 0 = omega (arith, ap length lacing, length-take (get_or front 26 0) (drop 27 front), length-drop 27 front, is.0, is.1) in
    ap (segments page.lacing) (
    ap (λ n. take (sum page.lacing) (drop n bytes)) (omega (arith, count))
    ∙ ap (take (sum page.lacing)) (sym (drop-drop (27 + get_or front 26 0) at bytes))
    ∙ ap (λ ns. take (sum ns) (drop (27 + get_or front 26 0) front)) (sym lacing)
    ∙ body
    )

-- what is kept of the packets, behind a page
kept_on : (bytes : List ℕ) (packets : List (List ℕ)) (kept : Kept) (track : Bool) (at checksum : ℕ) (page : Page) → Keeps bytes packets kept [] → page_at_front (drop at bytes) ≡ Ok page → number_at 4 22 (drop at bytes) ≡ checksum
    → All (λ packet. length packet ≤ most_bytes) (packets_from kept.begun (segments (lacing_if track page.lacing) page.body))
    → Keeps bytes (packets ++ packets_from kept.begun (segments (lacing_if track page.lacing) page.body)) (page_kept track (record { at = at; checksum = checksum; lacing = page.lacing }) page.body kept) []
unfolding segments packets_from
kept_on bytes packets kept true at checksum page k e sum few =
    let mark : PageMark = record { at = at; checksum = checksum; lacing = page.lacing } in
    let same : segments_at bytes mark ≡ segments page.lacing page.body = page_segments bytes at checksum page e in
    subst (λ ps. Keeps bytes (packets ++ packets_from kept.begun ps) (with_page mark ps kept) []) same
    (page_keeps bytes packets kept mark k (record { page = page; stands = e; checksum = sum; lacing = refl }) (subst (λ ps. All (λ (p : List ℕ). length p ≤ most_bytes) (packets_from kept.begun ps)) (sym same) few))
kept_on bytes packets kept false at checksum page k e sum few = subst (λ ps. Keeps bytes ps kept []) (sym (append-nil packets)) k

-- the mark of false pages behind a page
pub record Looked (old new : Bool) (size : ℕ) (bytes : List ℕ) : Type 0 where
  pub none : new ≡ false → (old ≡ false) × ((place : ℕ) → 0 < place → place < size → ¬ IsOk (page_at_front (drop place bytes)))
  pub one : new ≡ true → old ≡ false → (place : ℕ) × (0 < place) × (place < size) × IsOk (page_at_front (drop place bytes))

-- no check of the page fails
pub follow_page : (old new : Judging) (bytes : List ℕ) (at checksum size : ℕ) (page : Page) → page_at_front (drop at bytes) ≡ Ok page → number_at 4 22 (drop at bytes) ≡ checksum → size ≡ bytes_of_page page
    → page_checks (before_of old) at page ≡ Ok (before_of new)
    → kept_of new.packets ≡ page_kept (is_of_track old.walk.state page) (record { at = at; checksum = checksum; lacing = page.lacing }) page.body (kept_of old.packets)
    → All (λ packet. length packet ≤ most_bytes) (packets_on (before_of old) page)
    → Looked old.has_false new.has_false size (drop at bytes)
    → Follows bytes old at → Follows bytes new (at + size)
follow_page old new bytes at checksum size page e sum n checks kept few looked f = record {
  packets = f.packets ++ packets_on (before_of old) page;
  falls = λ verdict j. f.falls verdict (judged_page (before_of old) (before_of new) f.packets at size bytes page verdict e checks n j);
  keeps = subst (λ k. Keeps bytes (f.packets ++ packets_on (before_of old) page) k []) (sym kept)
      (kept_on bytes f.packets (kept_of old.packets) (is_of_track old.walk.state page) at checksum page f.keeps e sum few);
  starts = subst (λ k. IsStart bytes (at + k)) (sym n) (starts_more bytes at page f.starts e);
  none_false = λ same. none_inside bytes at size f.starts (f.none_false (looked.none same).0) (looked.none same).1;
  one_false = λ same. found old.has_false refl same;
}
  where
    found : (before : Bool) → old.has_false ≡ before → new.has_false ≡ true → ¬ IsSeekable bytes
    found true was now = f.one_false was
    found false was now = let one = looked.one now was in false_inside bytes at one.0 page f.starts e one.1 (omega (arith, one.2, n)) one.3

-- behind the last byte a verdict falls
judged_end : (before : Before) (packets : List (List ℕ)) (at : ℕ) (verdict : Verdict) → end_verdict before packets at ≡ verdict → JudgedFrom before packets at [] verdict
unfolding Judges verdict_here
judged_end before packets at verdict e = let here : verdict_here before packets at [] ≡ Some verdict = ap Some e in record { pages = []; judges = here }

follow_end : (judging : Judging) (bytes : List ℕ) (size : ℕ) (verdict : Verdict) → size ≡ length bytes → (f : Follows bytes judging size) → end_verdict (before_of judging) f.packets size ≡ verdict → Judged bytes verdict
follow_end judging bytes size verdict whole f e =
    let none : drop size bytes ≡ [] = ap (λ n. drop n bytes) whole ∙ drop-length bytes in
    f.falls verdict (subst (λ xs. JudgedFrom (before_of judging) f.packets size xs verdict) (sym none) (judged_end (before_of judging) f.packets size verdict e))

-- a check fails there
pub ends_badly : (judging : Judging) (bytes : List ℕ) (size : ℕ) (fault : Fault) → size ≡ length bytes → end_check (before_of judging) size ≡ Err fault → Follows bytes judging size → Fails (Bad fault) bytes
ends_badly judging bytes size fault whole e f = follow_end judging bytes size (Err fault) whole f (ap (λ read. read >>= (λ walk. Ok f.packets)) e)

-- none does, and this is kept
pub ends_well : (judging : Judging) (bytes ident comment setup : List ℕ) (size input : ℕ) (walk : State) → size ≡ length bytes → end_check (before_of judging) size ≡ Ok walk
    → (kept_of judging.packets).headers ≡ ident ∷ comment ∷ setup ∷ [] → Follows bytes judging size
    → IsIndexed bytes (record { input = input; ident = ident; comment = comment; setup = setup; pages = (kept_of judging.packets).marks; frames = (kept_of judging.packets).frames; seekable = not judging.has_false })
ends_well judging bytes ident comment setup size input walk whole e three f =
    let heads : ident ∷ comment ∷ setup ∷ [] ≡ take 3 f.packets = sym three ∙ f.keeps.headers_are in
    record {
      packets = f.packets;
      judged = follow_end judging bytes size (Ok f.packets) whole f (ap (λ read. read >>= (λ walk. Ok f.packets)) e);
      index_of = record {
        whole = omega (arith, ap length heads, length-take 3 f.packets);
        ident = ap (λ ps. get_or ps 0 []) heads ∙ get_or-take 3 f.packets 0 [] (lit< tt);
        comment = ap (λ ps. get_or ps 1 []) heads ∙ get_or-take 3 f.packets 1 [] (lit< tt);
        setup = ap (λ ps. get_or ps 2 []) heads ∙ get_or-take 3 f.packets 2 [] (lit< tt);
        pages = f.keeps.marks_are;
        frames = f.keeps.frames_are;
        seekable = λ yes. all_looked bytes size whole (f.none_false (not_true judging.has_false yes));
        not_seekable = λ no. f.one_false (not_false judging.has_false no);
      };
    }
  where
    not_true : (b : Bool) → not b ≡ true → b ≡ false
    not_true true h = sym h
    not_true false h = refl

    not_false : (b : Bool) → not b ≡ false → b ≡ true
    not_false true h = refl
    not_false false h = sym h

-- a refusal is told as a fault of the source
pub answered : (refusal : Refusal) (bytes : List ℕ) → length bytes ≤ longest → Finds (Err refusal) bytes → Answers longest (Err (source_fault refusal)) bytes
answered (Bad (InPacket link packet at fault)) bytes short h = (at, (short, h))
answered (Bad (InPage at fault)) bytes short h = (short, h)
answered (Bad (InLink at fault)) bytes short h = (short, h)
answered ReadFault bytes short h = tt
answered NoMem bytes short h = tt

-- before the first page nothing is kept
nothing_kept : (bytes : List ℕ) → Keeps bytes [] (record { headers = []; marks = []; frames = []; quantiser = 0; place = record { page = 0; segment = 0 }; begun = [] }) []
unfolding AreFramesOf last_quantiser segments_along
nothing_kept bytes = record {
  headers_are = refl;
  marks_are = All-nil (IsMarkOf bytes);
  frames_are = tt;
  quantiser_is = refl;
  page_in = omega arith;
  segment_in = omega arith;
  goes_on = λ more. refl;
}

pub follow_start : (judging : Judging) (bytes : List ℕ) → before_of judging ≡ nothing → (kept_of judging.packets).headers ≡ [] → (kept_of judging.packets).marks ≡ [] → (kept_of judging.packets).frames ≡ []
    → (kept_of judging.packets).quantiser ≡ 0 → (kept_of judging.packets).place ≡ record { page = 0; segment = 0 } → (kept_of judging.packets).begun ≡ [] → judging.has_false ≡ false → Follows bytes judging 0
unfolding Judged
follow_start judging bytes before heads marks frames quantiser place begun none = record {
  packets = [];
  falls = λ verdict j. subst (λ b. JudgedFrom b [] 0 bytes verdict) before j;
  keeps = subst (λ k. Keeps bytes [] k []) (sym kept) (nothing_kept bytes);
  starts = starts_first bytes;
  none_false = λ same at low. absurd (omega (arith, low));
  one_false = λ same. absurd (true≢false (sym same ∙ none));
}
  where
    kept : kept_of judging.packets ≡ record { headers = []; marks = []; frames = []; quantiser = 0; place = record { page = 0; segment = 0 }; begun = [] }
    kept = λ i. record { headers = heads i; marks = marks i; frames = frames i; quantiser = quantiser i; place = place i; begun = begun i }

-- a check fails at the end
pub ends_badly_as : (judging : Judging) (bytes : List ℕ) (size : ℕ) (refusal : Refusal) → size ≡ length bytes → RefusesAs refusal (end_check (before_of judging) size) → Follows bytes judging size → Fails refusal bytes
ends_badly_as judging bytes size (Bad fault) whole e f = ends_badly judging bytes size fault whole e f
ends_badly_as judging bytes size ReadFault whole e f = absurd e
ends_badly_as judging bytes size NoMem whole e f = tt

-- none fails
pub found_as : (judging : Judging) (packets : Packets) (result : Result Index Refusal) (bytes : List ℕ) (size input : ℕ) → size ≡ length bytes → packets ≡ judging.packets → IsOk (end_check (before_of judging) size) → IsOk result
    → IfOk result (λ index. (kept_of packets).headers ≡ index.ident ∷ index.comment ∷ index.setup ∷ [])
    → IfOk result (λ index. (index.input ≡ input) × (index.pages ≡ (kept_of packets).marks) × (index.frames ≡ (kept_of packets).frames) × (index.seekable ≡ not judging.has_false))
    → Follows bytes judging size → Finds result bytes
found_as judging packets (Err refusal) bytes size input whole same end ok heads kept f = absurd (cc)
found_as judging packets (Ok index) bytes size input whole same end ok heads kept f =
    let read = ok_value (end_check (before_of judging) size) end in
    let indexed = ends_well judging bytes index.ident index.comment index.setup size input read.0 whole read.1 (ap (λ (p : Packets). (kept_of p).headers) (sym same) ∙ heads) f in
    subst (IsIndexed bytes) (λ i. record {
      input = sym kept.0 i;
      ident = index.ident;
      comment = index.comment;
      setup = index.setup;
      pages = (ap (λ (p : Packets). (kept_of p).marks) (sym same) ∙ sym kept.1) i;
      frames = (ap (λ (p : Packets). (kept_of p).frames) (sym same) ∙ sym kept.2) i;
      seekable = sym kept.3 i;
    }) indexed
