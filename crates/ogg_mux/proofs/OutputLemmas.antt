-- The pages of a stream are written as they are, and carry its packets. Muxers and plain copies cite these.
use Rattle.std.proofs.Common.{◌≡◌, ℕ, zero, suc, ◌+◌, ◌-◌, ◌/◌, ◌^◌, ◌<◌, ◌≤◌, true, false, List, [], ◌∷◌, ◌++◌, length, length-append, length-drop, take, drop, sum, map, nat_lt, Some, None, Option, if◌then◌else◌, ◌==◌, refl, ap, ◌∙◌, arith, append_assoc, append-nil, mod-lt, ne_eqb}
use Rattle.std.specs.Option.{unwrap_or}
use Rattle.std.proofs.lemmas.List.{drop-drop}
use Rattle.std.proofs.lemmas.List.Sums.{sum_by-append, sum_by-cons}
use Rattle.ogg_page.specs.Page.{ArePages}
use Rattle.ogg_page.specs.Written.{written_page, written_pages}
use Rattle.ogg_page.specs.Packets.{Piece, segments, segments_of}
use Rattle.ogg_mux.specs.OutputPages.{Held, Segment, next_page, first_page, grown, page_with, pages_list, pages_from, cut_at_255, packet_segments}
use Rattle.ogg_page.proofs.PacketLemmas.{segments-more}
use Rattle.ogg_page.proofs.WrittenLemmas.{IsWritable, AllWritable, ArePages-written_pages}

-- a segment behind a closed page stands on the next one
pub pages_from-closed : (serial last : ℕ) (held : Held) (s : Segment) (ss : List Segment) → held.closed ≡ true
    → pages_from serial last held (s ∷ ss) ≡ written_page (page_with serial 0 held) ++ pages_from serial last (next_page held) (s ∷ ss)
unfolding pages_from pages_list next_page written_pages
pages_from-closed serial last held s ss shut = rw shut refl

-- a segment on a page that is not closed
pub pages_from-open : (serial last : ℕ) (held : Held) (s : Segment) (ss : List Segment) → held.closed ≡ false → pages_from serial last held (s ∷ ss) ≡ pages_from serial last (grown held s) ss
unfolding pages_from pages_list
pages_from-open serial last held s ss open_page = rw open_page refl

-- no segment, and no page begun
pub pages_from-none : (serial last : ℕ) (held : Held) → pages_from serial last (next_page held) [] ≡ []
unfolding pages_from pages_list next_page written_pages
pages_from-none serial last held = refl

-- the last page
pub pages_from-last : (serial last : ℕ) (held : Held) → 0 < length held.lacing → pages_from serial last held [] ≡ written_page (page_with serial last held)
unfolding pages_from pages_list written_pages
pages_from-last serial last held there = rw (ne_eqb (length held.lacing) 0 (λ e. absurd (omega (arith, e)))) (append-nil (written_page (page_with serial last held)))

over_255 : (n : ℕ) → 255 ≤ n → n / 255 ≡ suc ((n - 255) / 255)
over_255 n h = grind arith

-- a packet of 255 bytes or more in segments
pub packet_segments-more : (bytes : List ℕ) (granule : ℕ) (least : Option ℕ) → 255 ≤ length bytes
    → packet_segments bytes granule least ≡ record { bytes = take 255 bytes; granule = None; least = None } ∷ packet_segments (drop 255 bytes) granule least
unfolding cut_at_255
packet_segments-more bytes granule least h = rw (over_255 (length bytes) h, length-drop) refl

-- a packet of fewer
pub packet_segments-last : (bytes : List ℕ) (granule : ℕ) (least : Option ℕ) → length bytes < 255 → packet_segments bytes granule least ≡ record { bytes = bytes; granule = Some granule; least = least } ∷ []
unfolding cut_at_255
packet_segments-last bytes granule least h = let none : length bytes / 255 ≡ 0 = grind arith in rw none refl

-- what is left of a packet at a place
pub packet_segments-step : (bytes : List ℕ) (at granule : ℕ) (least : Option ℕ) → 255 ≤ length bytes - at
    → packet_segments (drop at bytes) granule least ≡ record { bytes = take 255 (drop at bytes); granule = None; least = None } ∷ packet_segments (drop (at + 255) bytes) granule least
packet_segments-step bytes at granule least h = packet_segments-more (drop at bytes) granule least (rw length-drop h) ∙ rw drop-drop refl

-- a held page whose numbers fit, and whose lacing values count its body
pub record IsSound (held : Held) : Type 0 where
  pub granule : held.granule < 2 ^ 64
  pub number : held.number < 2 ^ 32
  pub shape : sum held.lacing ≡ length held.body

unfoldable pub Fits : Option ℕ → Type 0
Fits None = Unit {0}
Fits (Some granule) = granule < 2 ^ 64

-- granule positions that fit
unfoldable pub AllFit : List Segment → Type 0
AllFit [] = Unit {0}
AllFit (s ∷ ss) = Fits s.granule × AllFit ss

unwrap_or-lt : (g : Option ℕ) (d : ℕ) → Fits g → d < 2 ^ 64 → unwrap_or g d < 2 ^ 64
unfolding Fits
unwrap_or-lt None d h k = k
unwrap_or-lt (Some g) d h k = h

pub IsSound-grown : (held : Held) (s : Segment) → IsSound held → Fits s.granule → IsSound (grown held s)
unfolding grown
IsSound-grown held s sound fits = record {
  granule = unwrap_or-lt s.granule held.granule fits sound.granule;
  number = sound.number;
  shape = omega (arith, sound.shape, length-append held.body s.bytes, sum_by-append (λ x. x) held.lacing (length s.bytes ∷ []), sum_by-cons (λ x. x) (length s.bytes) []);
}

pub IsSound-next_page : (held : Held) → IsSound (next_page held)
unfolding next_page
IsSound-next_page held = record { granule = omega arith; number = mod-lt (held.number + 1) (omega arith); shape = refl }

pub IsSound-first_page : IsSound first_page
IsSound-first_page = record { granule = omega arith; number = omega arith; shape = refl }

writable : (serial flags : ℕ) (held : Held) → serial < 2 ^ 32 → IsSound held → IsWritable (page_with serial flags held)
writable serial flags held h sound = record { granule = sound.granule; serial = h; number = sound.number; shape = sound.shape }

-- the pages that segments fill can be written
pub AllWritable-pages_list : (serial last : ℕ) (held : Held) (ss : List Segment) → serial < 2 ^ 32 → IsSound held → AllFit ss → AllWritable (pages_list serial last held ss)
unfolding pages_list AllFit AllWritable
AllWritable-pages_list serial last held [] h sound fits =
    elim (length held.lacing == 0) as (λ b. AllWritable (if b then [] else page_with serial last held ∷ [])) [ true ↦ tt | false ↦ (writable serial last held h sound, tt) ]
AllWritable-pages_list serial last held (s ∷ ss) h sound fits =
    elim held.closed as (λ b. AllWritable (if b then page_with serial 0 held ∷ pages_list serial last (grown (next_page held) s) ss else pages_list serial last (grown held s) ss)) [
      | true ↦ (writable serial 0 held h sound, AllWritable-pages_list serial last (grown (next_page held) s) ss h (IsSound-grown (next_page held) s (IsSound-next_page held) fits.0) fits.1)
      | false ↦ AllWritable-pages_list serial last (grown held s) ss h (IsSound-grown held s sound fits.0) fits.1
    ]

-- their bytes are those pages
pub ArePages-pages_from : (serial last : ℕ) (held : Held) (ss : List Segment) → serial < 2 ^ 32 → IsSound held → AllFit ss → ArePages (pages_from serial last held ss) (pages_list serial last held ss)
unfolding pages_from
ArePages-pages_from serial last held ss h sound fits = ArePages-written_pages (pages_list serial last held ss) (AllWritable-pages_list serial last held ss h sound fits)

-- a segment as a piece of its packet
abbrev pub piece_of : Segment → Piece
piece_of s = record { bytes = s.bytes; ends = nat_lt (length s.bytes) 255 }

last_segments : (serial last : ℕ) (held : Held) → sum held.lacing ≡ length held.body → segments_of (if length held.lacing == 0 then [] else page_with serial last held ∷ []) ≡ segments held.lacing held.body ++ []
unfolding segments_of segments
last_segments serial last held h = go held.lacing
  where
    go : (lacing : List ℕ) → segments_of (if length lacing == 0 then [] else record { flags = held.flags + last; granule = held.granule; serial = serial; number = held.number; lacing = lacing; body = held.body } ∷ []) ≡ segments lacing held.body ++ []
    go [] = refl
    go (n ∷ ns) = rw (ne_eqb (length (n ∷ ns)) 0 (λ e. absurd (omega (arith, e)))) refl

-- the segments of the pages are those that were added
pub segments_of-pages_list : (serial last : ℕ) (held : Held) (ss : List Segment) → IsSound held → AllFit ss → segments_of (pages_list serial last held ss) ≡ segments held.lacing held.body ++ map piece_of ss
unfolding pages_list segments_of segments grown next_page AllFit
segments_of-pages_list serial last held [] sound fits = last_segments serial last held sound.shape
segments_of-pages_list serial last held (s ∷ ss) sound fits =
    elim held.closed as (λ b. segments_of (if b then page_with serial 0 held ∷ pages_list serial last (grown (next_page held) s) ss else pages_list serial last (grown held s) ss) ≡ segments held.lacing held.body ++ piece_of s ∷ map piece_of ss) [
      | true ↦ ap (λ l. segments held.lacing held.body ++ l) (segments_of-pages_list serial last (grown (next_page held) s) ss (IsSound-grown (next_page held) s (IsSound-next_page held) fits.0) fits.1 ∙ ap (λ l. l ++ map piece_of ss) (segments-more [] [] s.bytes refl))
      | false ↦ segments_of-pages_list serial last (grown held s) ss (IsSound-grown held s sound fits.0) fits.1 ∙ ap (λ l. l ++ map piece_of ss) (segments-more held.lacing held.body s.bytes sound.shape) ∙ append_assoc (segments held.lacing held.body) (piece_of s ∷ []) (map piece_of ss)
    ]

-- a packet's segments fit where its granule position does
pub AllFit-cut : (n : ℕ) (bytes : List ℕ) (g : ℕ) (l : Option ℕ) (more : List Segment) → g < 2 ^ 64 → AllFit more → AllFit (cut_at_255 n bytes g l ++ more)
unfolding cut_at_255 AllFit Fits
AllFit-cut zero bytes g l more h m = (h, m)
AllFit-cut (suc n) bytes g l more h m = (tt, AllFit-cut n (drop 255 bytes) g l more h m)
