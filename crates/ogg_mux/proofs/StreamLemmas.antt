-- The bytes of a stream are its pages, and the packets on them are its headers and frame packets. Muxers and plain copies cite these.
use Rattle.std.proofs.Common.{◌≡◌, ℕ, zero, suc, ◌+◌, ◌*◌, ◌/◌, ◌^◌, ◌<◌, ◌≤◌, true, false, List, [], ◌∷◌, ◌++◌, length, length-drop, length-take, take, drop, map, nat_lt, Some, None, Option, if◌then◌else◌, refl, ap, sym, subst, ◌∙◌, arith, lt-ltb, le-ltb, append_assoc, append-nil, take-append-drop, pow_mono}
use Rattle.std.proofs.Math.Nat.{mul-le-mul_left}
use Rattle.ogg_page.specs.Page.{ArePages}
use Rattle.ogg_page.specs.Packets.{packets_from, segments, packets_of}
use Rattle.ogg_link.specs.Track.{is_key, granule_of}
use Rattle.ogg_mux.specs.OutputPages.{Segment, Stream, first_page, cut_at_255, packet_segments, header_segments, frame_segments, paged_list, paged}
use Rattle.ogg_mux.specs.Walked.{HasRoom}
use Rattle.ogg_page.proofs.WrittenLemmas.{AllWritable, ArePages-written_pages}
use Rattle.ogg_mux.proofs.OutputLemmas.{AllFit, AllFit-cut, AllWritable-pages_list, IsSound-first_page, piece_of, segments_of-pages_list}

-- a packet's segments, joined
cut-joined : (n : ℕ) (front bytes : List ℕ) (g : ℕ) (l : Option ℕ) (more : List Segment) → 255 * n ≤ length bytes → length bytes < 255 * n + 255
    → packets_from front (map piece_of (cut_at_255 n bytes g l ++ more)) ≡ (front ++ bytes) ∷ packets_from [] (map piece_of more)
unfolding packets_from cut_at_255
cut-joined zero front bytes g l more h k = rw (lt-ltb (length bytes) 255 (omega arith)) refl
cut-joined (suc n) front bytes g l more h k =
    let full : nat_lt (length (take 255 bytes)) 255 ≡ false = le-ltb (length (take 255 bytes)) 255 (omega (arith, length-take 255 bytes)) in
    rw full (cut-joined n (front ++ take 255 bytes) (drop 255 bytes) g l more (omega (arith, length-drop 255 bytes)) (omega (arith, length-drop 255 bytes))
    ∙ ap (λ p. p ∷ packets_from [] (map piece_of more)) (append_assoc front (take 255 bytes) (drop 255 bytes) ∙ ap (λ b. front ++ b) (take-append-drop 255 bytes)))

-- the segments of a packet are that packet
pub packets_from-packet_segments : (bytes : List ℕ) (g : ℕ) (l : Option ℕ) (more : List Segment) → packets_from [] (map piece_of (packet_segments bytes g l ++ more)) ≡ bytes ∷ packets_from [] (map piece_of more)
packets_from-packet_segments bytes g l more = cut-joined (length bytes / 255) [] bytes g l more (omega arith) (omega arith)

-- the segments of frame packets are those packets
pub packets_from-frame_segments : (least base shift f k : ℕ) (ps : List (List ℕ)) → packets_from [] (map piece_of (frame_segments least base shift f k ps)) ≡ ps
unfolding packets_from frame_segments
packets_from-frame_segments least base shift f k [] = refl
packets_from-frame_segments least base shift f k (p ∷ ps) =
    let key : ℕ = if is_key p then f else k in
    packets_from-packet_segments p (granule_of base shift key f) (Some least) (frame_segments least base shift (f + 1) key ps) ∙ ap (λ l. p ∷ l) (packets_from-frame_segments least base shift (f + 1) key ps)

-- the three headers one by one
pub header_segments-append : (s : Stream) (more : List Segment) → header_segments s ++ more ≡ packet_segments s.ident 0 (Some 0) ++ (packet_segments s.comment 0 None ++ (packet_segments s.setup 0 (Some 0) ++ more))
header_segments-append s more =
    append_assoc (packet_segments s.ident 0 (Some 0) ++ packet_segments s.comment 0 None) (packet_segments s.setup 0 (Some 0)) more
    ∙ append_assoc (packet_segments s.ident 0 (Some 0)) (packet_segments s.comment 0 None) (packet_segments s.setup 0 (Some 0) ++ more)

packets_from-header_segments : (s : Stream) (more : List Segment) → packets_from [] (map piece_of (header_segments s ++ more)) ≡ s.ident ∷ s.comment ∷ s.setup ∷ packets_from [] (map piece_of more)
packets_from-header_segments s more =
    ap (λ l. packets_from [] (map piece_of l)) (header_segments-append s more)
    ∙ packets_from-packet_segments s.ident 0 (Some 0) _ ∙ ap (λ l. s.ident ∷ l) (packets_from-packet_segments s.comment 0 None _ ∙ ap (λ l. s.comment ∷ l) (packets_from-packet_segments s.setup 0 (Some 0) more))

granule_of-lt : (base shift k f : ℕ) → base ≤ 1 → shift ≤ 31 → k ≤ f → f < 2 ^ 24 → granule_of base shift k f < 2 ^ 64
granule_of-lt base shift k f hb hs hk hf =
    let p : 2 ^ shift ≤ 2 ^ 31 = pow_mono hs in
    let q : (base + k) * 2 ^ shift ≤ (base + k) * 2 ^ 31 = mul-le-mul_left (base + k) p in
    omega arith

key-le : (p : List ℕ) (f k : ℕ) → k ≤ f → (if is_key p then f else k) ≤ f
key-le p f k h = elim (is_key p) as (λ b. (if b then f else k) ≤ f) [ true ↦ omega arith | false ↦ h ]

-- the granule positions of frames fit
pub AllFit-frame_segments : (least base shift f k : ℕ) (ps : List (List ℕ)) → base ≤ 1 → shift ≤ 31 → k ≤ f → f + length ps ≤ 2 ^ 24 → AllFit (frame_segments least base shift f k ps)
unfolding frame_segments AllFit
AllFit-frame_segments least base shift f k [] hb hs hk hf = tt
AllFit-frame_segments least base shift f k (p ∷ ps) hb hs hk hf =
    let key : ℕ = if is_key p then f else k in
    let small : key ≤ f = key-le p f k hk in
    AllFit-cut (length p / 255) p (granule_of base shift key f) (Some least) _ (granule_of-lt base shift key f hb hs small (omega arith)) (AllFit-frame_segments least base shift (f + 1) key ps hb hs (omega arith) (omega arith))

AllFit-header_segments : (s : Stream) (more : List Segment) → AllFit more → AllFit (header_segments s ++ more)
AllFit-header_segments s more m =
    subst AllFit (sym (header_segments-append s more))
    (AllFit-cut (length s.ident / 255) s.ident 0 (Some 0) _ (omega arith) (AllFit-cut (length s.comment / 255) s.comment 0 None _ (omega arith) (AllFit-cut (length s.setup / 255) s.setup 0 (Some 0) more (omega arith) m)))

AllFit-headers_alone : (s : Stream) → AllFit (header_segments s)
unfolding AllFit
AllFit-headers_alone s = subst AllFit (append-nil (header_segments s)) (AllFit-header_segments s [] tt)

all_fit : (least : ℕ) (s : Stream) (p : List ℕ) (ps : List (List ℕ)) → HasRoom s (p ∷ ps) → AllFit (header_segments s ++ frame_segments least s.base s.shift 0 0 (p ∷ ps))
all_fit least s p ps room = AllFit-header_segments s _ (AllFit-frame_segments least s.base s.shift 0 0 (p ∷ ps) room.base room.shift (omega arith) (omega (arith, room.count)))

AllWritable-paged_list : (least : ℕ) (s : Stream) (ps : List (List ℕ)) → HasRoom s ps → AllWritable (paged_list least s ps)
unfolding paged_list
AllWritable-paged_list least s [] room = AllWritable-pages_list s.serial 0 first_page (header_segments s) room.serial IsSound-first_page (AllFit-headers_alone s)
AllWritable-paged_list least s (p ∷ ps) room = AllWritable-pages_list s.serial 4 first_page _ room.serial IsSound-first_page (all_fit least s p ps room)

-- the bytes of a stream are its pages
pub ArePages-paged : (least : ℕ) (s : Stream) (ps : List (List ℕ)) → HasRoom s ps → ArePages (paged least s ps) (paged_list least s ps)
unfolding paged
ArePages-paged least s ps room = ArePages-written_pages (paged_list least s ps) (AllWritable-paged_list least s ps room)

-- the packets on them are its headers and these frame packets
pub packets_of-paged_list : (least : ℕ) (s : Stream) (ps : List (List ℕ)) → HasRoom s ps → packets_of (paged_list least s ps) ≡ s.ident ∷ s.comment ∷ s.setup ∷ ps
unfolding paged_list packets_of segments packets_from
packets_of-paged_list least s [] room =
    ap (packets_from []) (segments_of-pages_list s.serial 0 first_page (header_segments s) IsSound-first_page (AllFit-headers_alone s)) ∙ ap (λ l. packets_from [] (map piece_of l)) (sym (append-nil (header_segments s))) ∙ packets_from-header_segments s []
packets_of-paged_list least s (p ∷ ps) room =
    ap (packets_from []) (segments_of-pages_list s.serial 4 first_page _ IsSound-first_page (all_fit least s p ps room))
    ∙ packets_from-header_segments s _ ∙ ap (λ l. s.ident ∷ s.comment ∷ s.setup ∷ l) (packets_from-frame_segments least s.base s.shift 0 0 (p ∷ ps))
