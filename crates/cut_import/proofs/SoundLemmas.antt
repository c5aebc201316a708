-- What an import writes is well-formed: it is judged as a file with its headers and packets. `import` cites this.
use Rattle.std.proofs.Common.{◌≡◌, ◌∙◌, ℕ, ◌+◌, ◌-◌, ◌%◌, ◌==◌, ◌^◌, ◌<◌, ◌≤◌, List, [], ◌∷◌, length, map, All, Option, Some, None, Ok, IsOk, refl, ap, sym, arith}
use Rattle.std.proofs.lemmas.List.{append-nil}
use Rattle.std.proofs.lemmas.List.Elements.{All-cons, All-nil}
use Rattle.std.proofs.Math.Nat.{mod-lt}
use Rattle.vid_base.specs.declared.shape.Shape.{Shape}
use Rattle.ogg_link.specs.Spacing.{AreSpaced, BeginsWithKey, Close, behind}
use Rattle.ogg_link.specs.Track.{is_key}
use Rattle.ogg_mux.specs.Muxing.{least_body}
use Rattle.ogg_mux.specs.OutputPages.{paged}
use Rattle.thr_ident.specs.Comment.{own_comment}
use Rattle.thr_ident.specs.Header.{header_bytes}
use Rattle.thr_ident.specs.Ident.{ident_of}
use Rattle.thr_ident.proofs.LayoutLemmas.{length-header_bytes}
use Rattle.thr_setup.specs.Import.{imported}
use Rattle.thr_setup.specs.Setup.{packet_of, setup_of}
use Rattle.thr_setup.proofs.SetupLemmas.{import-sound, setup_back}
use Rattle.thr_frame.specs.Rebuilt.{Pair}
use Rattle.thr_frame.specs.Step.{state_after}
use Rattle.src_index.specs.Checks.{AreFaultless}
use Rattle.src_index.specs.Judge.{Judged}
use Rattle.src_index.proofs.SoundLemmas.{sound_track}
use Rattle.src_index.proofs.WrittenLemmas.{stream_judged}
use Rattle.y4m_io.specs.declared.head.Head.{Head}
use Rattle.y4m_io.specs.Pictures.{Samples}
use Rattle.cut_import.specs.Imported.{AreCodes, import_header, import_packets, import_shape, import_stream}
use Rattle.cut_import.proofs.CodeLemmas.{gap_more}
use Rattle.cut_import.proofs.HeaderLemmas.{comment_short, comment_sound, setup_short}

-- one packet for each picture
codes_count : (s : Shape) (qi keys n : ℕ) (state : Option Pair) (pictures : List Samples) (packets : List (List ℕ)) → AreCodes s qi keys state n pictures packets → length packets ≡ length pictures
unfolding AreCodes
codes_count s qi keys n state [] [] codes = refl
codes_count s qi keys n state [] (packet ∷ packets) codes = absurd codes
codes_count s qi keys n state (picture ∷ pictures) [] codes = absurd codes
codes_count s qi keys n state (picture ∷ pictures) (packet ∷ packets) codes = omega (arith, codes_count s qi keys (n + 1) (Some codes.0.next) pictures packets codes.1)

-- a packet is not too long
abbrev IsShort : List ℕ → Type 0
IsShort packet = length packet ≤ 2 ^ 30

codes_short : (s : Shape) (qi keys n : ℕ) (state : Option Pair) (pictures : List Samples) (packets : List (List ℕ)) → AreCodes s qi keys state n pictures packets → All IsShort packets
unfolding AreCodes
codes_short s qi keys n state [] [] codes = All-nil IsShort
codes_short s qi keys n state [] (packet ∷ packets) codes = absurd codes
codes_short s qi keys n state (picture ∷ pictures) [] codes = absurd codes
codes_short s qi keys n state (picture ∷ pictures) (packet ∷ packets) codes =
    All-cons IsShort packet packets (omega (arith, codes.0.short)) (codes_short s qi keys (n + 1) (Some codes.0.next) pictures packets codes.1)

-- each packet decodes from the state of those before it
codes_decode : (s : Shape) (qi keys n : ℕ) (state : Option Pair) (pictures : List Samples) (packets : List (List ℕ)) → AreCodes s qi keys state n pictures packets → IsOk (state_after imported s state packets)
unfolding AreCodes state_after
codes_decode s qi keys n state [] [] codes = refl
codes_decode s qi keys n state [] (packet ∷ packets) codes = absurd codes
codes_decode s qi keys n state (picture ∷ pictures) [] codes = absurd codes
codes_decode s qi keys n state (picture ∷ pictures) (packet ∷ packets) codes = rw codes.0.steps (codes_decode s qi keys (n + 1) (Some codes.0.next) pictures packets codes.1)

-- each frame stands near its key frame
codes_close : (s : Shape) (qi keys n distance : ℕ) (state : Option Pair) (pictures : List Samples) (packets : List (List ℕ)) → 0 < keys → keys ≤ 64 → (0 < n → distance ≡ (n - 1) % keys + 1)
    → AreCodes s qi keys state n pictures packets → Close 6 distance (map is_key packets)
unfolding AreCodes Close
codes_close s qi keys n distance state [] [] some few before codes = tt
codes_close s qi keys n distance state [] (packet ∷ packets) some few before codes = absurd codes
codes_close s qi keys n distance state (picture ∷ pictures) [] some few before codes = absurd codes
codes_close s qi keys n distance state (picture ∷ pictures) (packet ∷ packets) some few before codes =
    let here : behind distance (is_key packet) + 1 ≡ n % keys + 1 = gap_more n keys distance (is_key packet) some codes.0.key before in
    let back : n + 1 - 1 ≡ n = omega arith in
    (omega (arith, here, mod-lt n some), codes_close s qi keys (n + 1) (behind distance (is_key packet) + 1) (Some codes.0.next) pictures packets some few (λ later. rw back here) codes.1)

-- the first frame is a key frame
codes_begin : (s : Shape) (qi keys : ℕ) (pictures : List Samples) (packets : List (List ℕ)) → 0 < keys → AreCodes s qi keys None 0 pictures packets → BeginsWithKey (map is_key packets)
unfolding AreCodes BeginsWithKey
codes_begin s qi keys [] [] some codes = tt
codes_begin s qi keys [] (packet ∷ packets) some codes = absurd codes
codes_begin s qi keys (picture ∷ pictures) [] some codes = absurd codes
codes_begin s qi keys (picture ∷ pictures) (packet ∷ packets) some codes =
    let divides : 0 % keys ≡ 0 = omega (arith, mod-lt 0 some) in
    codes.0.key ∙ ap (λ r. r == 0) divides

-- the bytes that an import writes are a file with its headers and packets
pub import_judged : (h : Head) (qi keys : ℕ) (pictures : List Samples) (packets : List (List ℕ)) → ident_of (header_bytes (import_header h qi)) ≡ Ok (import_header h qi) → 0 < keys → keys ≤ 64 → length pictures ≤ 2 ^ 24
    → AreCodes (import_shape h qi) qi keys None 0 pictures packets → Judged (paged least_body (import_stream h qi) packets) (Ok (import_packets h qi packets))
import_judged h qi keys pictures packets reads some few count codes =
    let s = import_shape h qi in
    let long : length (header_bytes (import_header h qi)) ≡ 42 = length-header_bytes (import_header h qi) in
    let setup_reads : setup_of (packet_of imported) ≡ Ok imported = ap setup_of (sym (append-nil (packet_of imported))) ∙ setup_back imported [] import-sound in
    let fits : length packets ≤ 2 ^ 24 = omega (arith, count, codes_count s qi keys 0 None pictures packets codes) in
    let ident = header_bytes (import_header h qi) in
    let setup = packet_of imported in
    let short : All IsShort (import_packets h qi packets) =
    All-cons IsShort ident (own_comment ∷ setup ∷ packets) (omega (arith, long)) (All-cons IsShort own_comment (setup ∷ packets) comment_short (All-cons IsShort setup packets setup_short (codes_short s qi keys 0 None pictures packets codes))) in
    let spaced : AreSpaced 6 (map is_key packets) = record {
      first = codes_begin s qi keys pictures packets some codes;
      close = codes_close s qi keys 0 0 None pictures packets some few (λ later. absurd (omega (arith, later))) codes;
    } in
    let faultless : AreFaultless (import_packets h qi packets) =
    sound_track ident own_comment setup packets (import_header h qi) imported reads comment_sound setup_reads short fits spaced (codes_decode s qi keys 0 None pictures packets codes) in
    stream_judged least_body (import_stream h qi) packets (import_header h qi) (record { serial = omega arith; shift = omega arith; base = omega arith; count = fits }) (omega (arith, long)) reads refl faultless
