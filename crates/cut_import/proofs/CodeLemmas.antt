-- Pictures that are padded and coded one after another. The calls of `importer` and `importing` cite these.
use Rattle.std.proofs.Common.{◌≡◌, ◌∙◌, ℕ, ◌+◌, ◌-◌, ◌*◌, ◌/◌, ◌%◌, ◌^◌, ◌<◌, ◌≤◌, ◌==◌, zero, suc, Bool, true, false, if◌then◌else◌, List, [], ◌∷◌, ◌++◌, length, Option, Some, Err, refl, ap, sym, subst, arith, append_assoc}
use Rattle.std.proofs.lemmas.Bool.{true≢false}
use Rattle.std.proofs.lemmas.Bool.Decides.{nat_tests}
use Rattle.std.proofs.lemmas.Nat.{mod-mul-add}
use Rattle.std.proofs.Math.Nat.{mod-add-div', mod-le}
use Rattle.vid_base.specs.declared.shape.Shape.{Shape}
use Rattle.vid_desk.specs.Meaning.{Appends, Meaning}
use Rattle.vid_desk.specs.declared.fault.DeskFault.{DeskFault}
use Rattle.vid_desk.specs.declared.fault.DeskFault.TheVariants.{Failed, NoMem as NoRoom}
use Rattle.vid_desk.proofs.MeaningLemmas.{grown_count}
use Rattle.vid_plane.specs.Frames.{IsFrameOf}
use Rattle.vid_plane.specs.declared.frame.Frame.{Frame}
use Rattle.ogg_link.specs.Track.{is_key}
use Rattle.ogg_mux.specs.Muxing.{Muxing, least_body, rest_of}
use Rattle.ogg_mux.specs.OutputPages.{frame_segments, pages_from}
use Rattle.thr_setup.specs.Import.{imported}
use Rattle.enc_frame.specs.Encoding.{Leads, added}
use Rattle.enc_frame.specs.Near.{Near}
use Rattle.thr_frame.specs.Painted.{AreSealed}
use Rattle.thr_frame.specs.Rebuilt.{Pair}
use Rattle.thr_frame.specs.Step.{is_key as is_key_packet}
use Rattle.y4m_io.specs.Pad.{pad_of, padded_plane}
use Rattle.y4m_io.specs.Pictures.{Samples}
use Rattle.cut_desk.specs.Growing.{Grows}
use Rattle.cut_desk.proofs.GrowingLemmas.{grows_piece, grows_twice}
use Rattle.cut_import.specs.declared.importer.Importer.{Importer}
use Rattle.cut_import.specs.Imported.{AreCodes, Codes, padded}
use Rattle.cut_import.specs.Importers.{AddsSome, HasCoded}

-- a picture in a frame of a shape
pub pad_is : (s : Shape) (p : Samples) (f : Frame) → IsFrameOf s f → pad_of p f ≡ padded s p
unfolding pad_of
pad_is s p f of = rw (of.y.width, of.y.height, of.cb.width, of.cb.height, of.cr.width, of.cr.height) refl

pub padded_sized : (s : Shape) (p : Samples) → IsFrameOf s (padded s p)
unfolding padded_plane
padded_sized s p = record { y = record { width = refl; height = refl }; cb = record { width = refl; height = refl }; cr = record { width = refl; height = refl } }

pub padded_sealed : (s : Shape) (p : Samples) → AreSealed (padded s p)
unfolding padded_plane
padded_sealed s p = record { y = refl; cb = refl; cr = refl }

pub pad_sized : (s : Shape) (p : Samples) (f g : Frame) → IsFrameOf s f → g ≡ pad_of p f → IsFrameOf s g
pad_sized s p f g of is = subst (λ (h : Frame). IsFrameOf s h) (sym (is ∙ pad_is s p f of)) (padded_sized s p)

pub pad_sealed : (s : Shape) (p : Samples) (f g : Frame) → IsFrameOf s f → g ≡ pad_of p f → AreSealed g
pad_sealed s p f g of is = subst AreSealed (sym (is ∙ pad_is s p f of)) (padded_sealed s p)

-- the two ways to say that a packet is a key frame's
pub same_key : (packet : List ℕ) → is_key packet ≡ is_key_packet packet
same_key [] = refl
same_key (byte ∷ bytes) = grind (arith, nat_tests)

-- how far frame n stands behind the last key frame before it
pub behind_key : (n keys : ℕ) → 0 < keys → 0 < n % keys → (n - 1) % keys + 1 ≡ n % keys
behind_key n keys some more =
    let e : n - 1 ≡ (n / keys) * keys + (n % keys - 1) = omega (arith, mod-add-div' n keys) in
    let f : (n - 1) % keys ≡ n % keys - 1 = ap (λ m. m % keys) e ∙ mod-mul-add (n / keys) keys (n % keys - 1) (omega arith) in
    omega (arith, f)

-- packets for no pictures
pub codes_none : (s : Shape) (qi keys n : ℕ) (state : Option Pair) → AreCodes s qi keys state n [] []
unfolding AreCodes
codes_none s qi keys n state = tt

-- one packet more at the front
pub codes_more : (s : Shape) (qi keys n : ℕ) (state : Option Pair) (picture : Samples) (pictures : List Samples) (packet : List ℕ) (packets : List (List ℕ))
    → (codes : Codes s qi keys state n picture packet) → AreCodes s qi keys (Some codes.next) (n + 1) pictures packets → AreCodes s qi keys state n (picture ∷ pictures) (packet ∷ packets)
unfolding AreCodes
codes_more s qi keys n state picture pictures packet packets codes rest = (codes, rest)

-- packets that may follow those of an importer
abbrev pub Join : Shape → ℕ → ℕ → Option Pair → Option Pair → ℕ → List Samples → List (List ℕ) → Type 0
Join s qi keys first now n pictures packets =
    (more : List Samples) (others : List (List ℕ)) → AreCodes s qi keys now n more others → AreCodes s qi keys first 0 (pictures ++ more) (packets ++ others)

-- one packet more at the end
pub join_more : (s : Shape) (qi keys n : ℕ) (first now : Option Pair) (pictures : List Samples) (packets : List (List ℕ)) (picture : Samples) (packet : List ℕ) (codes : Codes s qi keys now n picture packet)
    → Join s qi keys first now n pictures packets → Join s qi keys first (Some codes.next) (n + 1) (pictures ++ picture ∷ []) (packets ++ packet ∷ [])
join_more s qi keys n first now pictures packets picture packet codes join = λ more others rest.
    let all = join (picture ∷ more) (packet ∷ others) (codes_more s qi keys n now picture more packet others codes rest) in
    subst (λ (ps : List Samples). AreCodes s qi keys first 0 ps ((packets ++ packet ∷ []) ++ others)) (sym (append_assoc pictures (picture ∷ []) more))
    (subst (λ (qs : List (List ℕ)). AreCodes s qi keys first 0 (pictures ++ (picture ∷ more)) qs) (sym (append_assoc packets (packet ∷ []) others)) all)

-- bytes that were taken stand before those that are still to come
pub taken : (m : Muxing) (more : List (List ℕ)) → m.ready ++ rest_of (record m { ready = [] }) more ≡ rest_of m more
unfolding rest_of
taken m more = refl

-- bytes that are ready stand first
pub ready_first : (m : Muxing) (more : List (List ℕ)) → (rest : List ℕ) × (rest_of m more ≡ m.ready ++ rest)
unfolding rest_of
ready_first m more = (pages_from m.serial 4 m.held (frame_segments least_body m.base m.shift m.frames m.key more), refl)

-- all that a list holds was appended to an empty one
pub added_all : (old new : List ℕ) → old ≡ [] → added old new ≡ new
added_all old new none = rw none refl

-- what an append left
pub part_of : (old new : Meaning) (id : ℕ) (piece : List ℕ) (fault : DeskFault) → Appends old new id piece (Err fault) → old.write_faults ≤ new.write_faults → AddsSome old new id piece
part_of old new id piece Failed appends later = record { came = appends.0; rest = appends.1; part = appends.2; grows = grows_piece old new id appends.0 appends.3 later }
part_of old new id piece NoRoom appends later =
    record { came = []; rest = piece; part = refl; grows = record { grown = grown_count old new id appends; read_later = omega (arith, ap {A = Meaning} (λ m. m.read_faults) appends); write_later = later } }

-- a first part of a text is one of a longer text
pub some_more : (old new : Meaning) (id : ℕ) (text later all : List ℕ) → AddsSome old new id text → all ≡ text ++ later → AddsSome old new id all
some_more old new id text later all some is = record { came = some.came; rest = some.rest ++ later; part = is ∙ ap (λ t. t ++ later) some.part ∙ append_assoc some.came some.rest later; grows = some.grows }

-- a first part behind what came before
pub some_behind : (a b c : Meaning) (id : ℕ) (came text all : List ℕ) → Grows a b id came → AddsSome b c id text → all ≡ came ++ text → AddsSome a c id all
some_behind a b c id came text all first some is = record {
  came = came ++ some.came;
  rest = some.rest;
  part = is ∙ ap (λ t. came ++ t) some.part ∙ sym (append_assoc came some.came some.rest);
  grows = grows_twice a b c id came some.came first some.grows;
}

-- no more came of it
pub some_none : (a b : Meaning) (id : ℕ) (came rest all : List ℕ) → Grows a b id came → all ≡ came ++ rest → AddsSome a b id all
some_none a b id came rest all grows is = record { came = came; rest = rest; part = is; grows = grows }

-- a packet that was made for a target, as one of an importer
pub coded : (old new : Importer) (n : ℕ) (p : Samples) (target : Frame) (packet : List ℕ) (key : Bool) → old.encoder.setup ≡ imported → target ≡ padded old.encoder.shape p → (n % old.keys == 0) ≡ key → is_key_packet packet ≡ key → length packet < 2 ^ 30
    → Near old.encoder.setup old.encoder.shape old.encoder.state target old.qi packet → Leads old.encoder.setup old.encoder.shape old.encoder.state packet new.encoder.state → HasCoded old new n p packet
coded old new n p target packet key tables is divides kind short near leads = record {
  codes = record {
    key = same_key packet ∙ kind ∙ sym divides;
    short = short;
    near = rw (tables, is) at near;
    next = leads.pair;
    steps = rw tables at leads.steps;
  };
  state = leads.becomes;
}

-- whether a rest is 0
pub divides_true : (r : ℕ) → r ≡ 0 → (r == 0) ≡ true
divides_true r is = grind (arith, nat_tests)

pub divides_false : (r : ℕ) → (r ≡ 0 → ⊥) → (r == 0) ≡ false
divides_false r more = grind (arith, nat_tests)

-- how far the frame behind frame n stands behind its key frame
gap_by : (n keys gap r : ℕ) (key : Bool) → r ≡ n % keys → 0 < keys → key ≡ (r == 0) → (0 < n → gap ≡ (n - 1) % keys + 1) → (if key then 0 else gap) + 1 ≡ r + 1
gap_by n keys gap zero key is some divides before = rw divides refl
gap_by n keys gap (suc r) key is some divides before =
    let more : 0 < n % keys = omega (arith, is) in
    let first : 0 < n = omega (arith, mod-le n keys, more) in
    let other : key ≡ false = divides ∙ divides_false (suc r) (λ none. omega (arith, none)) in
    rw other (omega (arith, before first, behind_key n keys some more, is))

pub gap_more : (n keys gap : ℕ) (key : Bool) → 0 < keys → key ≡ (n % keys == 0) → (0 < n → gap ≡ (n - 1) % keys + 1) → (if key then 0 else gap) + 1 ≡ n % keys + 1
gap_more n keys gap key some divides before = gap_by n keys gap (n % keys) key refl some divides before

-- a frame that is no key frame stands behind one, and not too far
near_by : (n keys gap r : ℕ) (key : Bool) → r ≡ n % keys → 0 < keys → keys ≤ 64 → key ≡ (r == 0) → (0 < n → gap ≡ (n - 1) % keys + 1) → key ≡ false → (0 < n) × (gap < 2 ^ 6)
near_by n keys gap zero key is some few divides before other = absurd (true≢false (sym divides ∙ other))
near_by n keys gap (suc r) key is some few divides before other =
    let more : 0 < n % keys = omega (arith, is) in
    let first : 0 < n = omega (arith, mod-le n keys, more) in
    (first, omega (arith, before first, behind_key n keys some more))

pub near_key : (n keys gap : ℕ) (key : Bool) → 0 < keys → keys ≤ 64 → key ≡ (n % keys == 0) → (0 < n → gap ≡ (n - 1) % keys + 1) → key ≡ false → (0 < n) × (gap < 2 ^ 6)
near_key n keys gap key some few divides before other = near_by n keys gap (n % keys) key refl some few divides before other
