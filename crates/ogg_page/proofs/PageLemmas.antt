-- What decides a page: its parts, and nothing behind it. read_window and the laws of lists of pages cite these.
use Rattle.std.proofs.Common.{◌≡◌, ℕ, zero, suc, Fits, w8, ◌+◌, ◌*◌, ◌<◌, ◌≤◌, Bool, true, false, not, ◌||◌, List, [], ◌∷◌, ◌++◌, length, length-append, length-drop, length-take, take, drop, get_or, sum, All, nat_lt, Result, Ok, Err, if◌then◌else◌, ◌==◌, slice_index, refl, ap, sym, ◌∙◌, arith}
use Rattle.std.proofs.Math.ListN.{get_or-append}
use Rattle.std.proofs.lemmas.List.{take-append-le, drop-append-le, take_all}
use Rattle.std.proofs.lemmas.List.Elements.{All-take, All-drop}
use Rattle.std.proofs.lemmas.List.Sums.{sum_by-le}
use Rattle.std.proofs.lemmas.Bool.{le-ltb, ltb-false, eqb-true}
use Rattle.std.specs.Cmp.Lexicographic.{same_text}
use Rattle.std.specs.Str.{bytes_eq}
use Rattle.byteorder.specs.Endian.{little_number}
use Rattle.ogg_page.specs.declared.fault.PageFault.{PageFault}
use Rattle.ogg_page.specs.declared.fault.PageFault.TheVariants.{NotAPage, PageVersion, Checksum, Truncated}
use Rattle.ogg_page.specs.Division.{checksum_of}
use Rattle.ogg_page.specs.Page.{Page, page_at_front, capture, number_at, lacing_of, body_of, size_of, fields_of, is_short, bytes_of_page, largest_page}

-- the page or its first fault, from what is asked in turn
unfoldable pub first_of_four : Bool → Bool → Bool → Bool → Page → Result Page PageFault
first_of_four other_start other_version short right page =
    if other_start then Err NotAPage
    else if other_version then Err PageVersion
    else if short then Err Truncated
    else if right then Ok page
    else Err Checksum

abbrev pub starts_otherwise : List ℕ → Bool
starts_otherwise bytes = not (bytes_eq (take 4 bytes) (take (length bytes) capture))

abbrev pub has_its_checksum : List ℕ → Bool
has_its_checksum bytes = number_at 4 22 bytes == checksum_of (take (size_of bytes) bytes)

-- the definition as a function of its parts
pub by_parts : (bytes : List ℕ) → page_at_front bytes ≡ first_of_four (starts_otherwise bytes) (nat_lt 0 (slice_index bytes 4)) (is_short bytes) (has_its_checksum bytes) (fields_of bytes)
unfolding page_at_front first_of_four
by_parts bytes = refl

-- a page is read where nothing that is asked is wrong
record NoFault (a b c d : Bool) (page found : Page) : Type 0 where
  start : a ≡ false
  version : b ≡ false
  whole : c ≡ false
  right : d ≡ true
  fields : page ≡ found

from_ok : (a b c d : Bool) (page found : Page) → first_of_four a b c d page ≡ Ok found → NoFault a b c d page found
unfolding first_of_four
from_ok true b c d page found h = cc
from_ok false true c d page found h = cc
from_ok false false true d page found h = cc
from_ok false false false true page found h = record { start = refl; version = refl; whole = refl; right = refl; fields = cc }
from_ok false false false false page found h = cc

no_fault : (bytes : List ℕ) (page : Page) → page_at_front bytes ≡ Ok page → NoFault (starts_otherwise bytes) (nat_lt 0 (slice_index bytes 4)) (is_short bytes) (has_its_checksum bytes) (fields_of bytes) page
no_fault bytes page h = from_ok (starts_otherwise bytes) (nat_lt 0 (slice_index bytes 4)) (is_short bytes) (has_its_checksum bytes) (fields_of bytes) page (sym (by_parts bytes) ∙ h)

long_enough : (bytes : List ℕ) → is_short bytes ≡ false → (27 ≤ length bytes) × (size_of bytes ≤ length bytes)
long_enough bytes h = go (nat_lt (length bytes) 27) (nat_lt (length bytes) (size_of bytes)) refl refl h
  where
    go : (a b : Bool) → nat_lt (length bytes) 27 ≡ a → nat_lt (length bytes) (size_of bytes) ≡ b → a || b ≡ false → (27 ≤ length bytes) × (size_of bytes ≤ length bytes)
    go true b e f h = cc
    go false true e f h = cc
    go false false e f h = (ltb-false (length bytes) 27 e, ltb-false (length bytes) (size_of bytes) f)

-- a page that is read has the fields that stand in the bytes, and is there whole
pub page_is : (bytes : List ℕ) (page : Page) → page_at_front bytes ≡ Ok page → (27 ≤ length bytes) × (size_of bytes ≤ length bytes) × (fields_of bytes ≡ page)
page_is bytes page h =
    let parts = no_fault bytes page h in
    let long = long_enough bytes parts.whole in
    (long.0, long.1, parts.fields)

not_false : (b : Bool) → not b ≡ false → true ≡ b
not_false true h = refl
not_false false h = cc

-- it begins with `OggS`, its version is 0, and the checksum stands in its field
pub page_begins : (bytes : List ℕ) (page : Page) → page_at_front bytes ≡ Ok page → (take 4 bytes ≡ capture) × (slice_index bytes 4 ≡ 0) × (number_at 4 22 bytes ≡ checksum_of (take (size_of bytes) bytes))
page_begins bytes page h =
    let parts = no_fault bytes page h in
    let long = long_enough bytes parts.whole in
    let same : take 4 bytes ≡ take (length bytes) capture = same_text (take 4 bytes) (take (length bytes) capture) (not_false (bytes_eq (take 4 bytes) (take (length bytes) capture)) parts.start) in
    let version : slice_index bytes 4 ≤ 0 = ltb-false 0 (slice_index bytes 4) parts.version in
    (same ∙ take_all (length bytes) capture (omega (arith, long.0)), omega arith, eqb-true (number_at 4 22 bytes) (checksum_of (take (size_of bytes) bytes)) parts.right)

-- such a page takes as many bytes as it says
pub bytes_of_page-is : (bytes : List ℕ) (page : Page) → page_at_front bytes ≡ Ok page → (bytes_of_page page ≡ size_of bytes) × (bytes_of_page page ≤ length bytes)
bytes_of_page-is bytes page h =
    let is = page_is bytes page h in
    let lacing : length (lacing_of bytes) ≡ slice_index bytes 26 = omega (arith, length-take (slice_index bytes 26) (drop 27 bytes), length-drop 27 bytes, is.0, is.1) in
    let body : length (body_of bytes) ≡ sum (lacing_of bytes) = omega (arith, length-take (sum (lacing_of bytes)) (drop (27 + slice_index bytes 26) bytes), length-drop (27 + slice_index bytes 26) bytes, is.1) in
    let size : bytes_of_page page ≡ size_of bytes = ap bytes_of_page (sym is.2) ∙ omega (arith, lacing, body) in
    (size, omega (arith, size, is.1))

-- a field does not change by what follows
field_same : (w r : List ℕ) (i n : ℕ) → i + n ≤ length w → take n (drop i (w ++ r)) ≡ take n (drop i w)
field_same w r i n h =
    let e : drop i (w ++ r) ≡ drop i w ++ r = drop-append-le i w r (omega arith) in
    rw e (take-append-le n (drop i w) r (omega (arith, length-drop i w)))

-- what follows the bytes that the page says it has does not count
pub front_whole : (w r : List ℕ) → 27 ≤ length w → size_of w ≤ length w → page_at_front (w ++ r) ≡ page_at_front w
front_whole w r h k =
    let more : length (w ++ r) ≡ length w + length r = length-append w r in
    let four : take 4 (w ++ r) ≡ take 4 w = take-append-le 4 w r (omega arith) in
    let wanted : take (length (w ++ r)) capture ≡ take (length w) capture = take_all (length (w ++ r)) capture (omega arith) ∙ sym (take_all (length w) capture (omega arith)) in
    let version : slice_index (w ++ r) 4 ≡ slice_index w 4 = get_or-append w r 0 4 (omega arith) in
    let count : slice_index (w ++ r) 26 ≡ slice_index w 26 = get_or-append w r 0 26 (omega arith) in
    let lacing : lacing_of (w ++ r) ≡ lacing_of w = ap (λ n. take n (drop 27 (w ++ r))) count ∙ field_same w r 27 (slice_index w 26) (omega arith) in
    let size : size_of (w ++ r) ≡ size_of w = cc in
    let short : is_short (w ++ r) ≡ false = rw (size, le-ltb (length (w ++ r)) 27 (omega arith), le-ltb (length (w ++ r)) (size_of w) (omega arith)) refl in
    let short_too : is_short w ≡ false = rw (le-ltb (length w) 27 h, le-ltb (length w) (size_of w) k) refl in
    let found : number_at 4 22 (w ++ r) ≡ number_at 4 22 w = ap (little_number 4) (field_same w r 22 4 (omega arith)) in
    let whole : take (size_of (w ++ r)) (w ++ r) ≡ take (size_of w) w = ap (λ n. take n (w ++ r)) size ∙ take-append-le (size_of w) w r k in
    let flags : slice_index (w ++ r) 5 ≡ slice_index w 5 = get_or-append w r 0 5 (omega arith) in
    let granule : number_at 8 6 (w ++ r) ≡ number_at 8 6 w = ap (little_number 8) (field_same w r 6 8 (omega arith)) in
    let serial : number_at 4 14 (w ++ r) ≡ number_at 4 14 w = ap (little_number 4) (field_same w r 14 4 (omega arith)) in
    let number : number_at 4 18 (w ++ r) ≡ number_at 4 18 w = ap (little_number 4) (field_same w r 18 4 (omega arith)) in
    let behind : drop (27 + slice_index (w ++ r) 26) (w ++ r) ≡ drop (27 + slice_index w 26) (w ++ r) = ap (λ n. drop (27 + n) (w ++ r)) count in
    let body : body_of (w ++ r) ≡ body_of w = (λ i. take (sum (lacing i)) (behind i)) ∙ field_same w r (27 + slice_index w 26) (sum (lacing_of w)) (omega arith) in
    by_parts (w ++ r)
    ∙ (λ i. first_of_four (not (bytes_eq (four i) (wanted i))) (nat_lt 0 (version i)) (short i) (found i == checksum_of (whole i)) (record { flags = flags i; granule = granule i; serial = serial i; number = number i; lacing = lacing i; body = body i }))
    ∙ (λ i. first_of_four (starts_otherwise w) (nat_lt 0 (slice_index w 4)) (sym short_too i) (has_its_checksum w) (fields_of w))
    ∙ sym (by_parts w)

-- a page that is read is read with any bytes behind it
pub page_same : (w r : List ℕ) (page : Page) → page_at_front w ≡ Ok page → page_at_front (w ++ r) ≡ Ok page
page_same w r page h = let is = page_is w page h in front_whole w r is.0 is.1 ∙ h

-- as many bytes as the largest page takes decide a page or its fault
pub front_same : (w r : List ℕ) → largest_page ≤ length w → All (λ b. b ≤ 255) w → page_at_front (w ++ r) ≡ page_at_front w
front_same w r h small =
    let count : slice_index w 26 ≤ 255 = small 26 0 (omega arith) in
    let few : length (lacing_of w) ≤ 255 = omega (arith, length-take (slice_index w 26) (drop 27 w)) in
    let each : All (λ b. b ≤ 255) (lacing_of w) = All-take (λ b. b ≤ 255) (slice_index w 26) (drop 27 w) (All-drop (λ b. b ≤ 255) 27 w small) in
    let total : sum (lacing_of w) ≤ length (lacing_of w) * 255 = sum_by-le (λ b. b) 255 (lacing_of w) each in
    front_whole w r (omega arith) (omega arith)

any_default : (xs : List ℕ) (k d e : ℕ) → k < length xs → get_or xs k d ≡ get_or xs k e
any_default [] k d e h = absurd (omega arith)
any_default (x ∷ xs) zero d e h = refl
any_default (x ∷ xs) (suc k) d e h = any_default xs k d e (omega arith)

-- the bytes of a slice are bytes
pub all_bytes : (xs : List ℕ) → ((i : ℕ) → Fits w8 (get_or xs i 0)) → All (λ b. b ≤ 255) xs
all_bytes xs t = λ k d h. let f : get_or xs k 0 ≤ 255 = omega (arith, t k) in rw (any_default xs k d 0 h) f

read_or : Page → Result Page PageFault → Page
read_or none (Ok page) = page
read_or none (Err fault) = none

fault_or : PageFault → Result Page PageFault → PageFault
fault_or none (Ok page) = none
fault_or none (Err fault) = fault

-- there is one page at the front
pub one_page : (bytes : List ℕ) (p q : Page) → page_at_front bytes ≡ Ok p → page_at_front bytes ≡ Ok q → p ≡ q
unfolding read_or
one_page bytes p q h k = ap (read_or p) (sym h ∙ k)

-- or one fault
pub one_fault : (bytes : List ℕ) (f g : PageFault) → page_at_front bytes ≡ Err f → page_at_front bytes ≡ Err g → f ≡ g
unfolding fault_or
one_fault bytes f g h k = ap (fault_or f) (sym h ∙ k)

-- and not both
pub page_or_fault : (bytes : List ℕ) (p : Page) (f : PageFault) → page_at_front bytes ≡ Ok p → page_at_front bytes ≡ Err f → ⊥
page_or_fault bytes p f h k = let both : ◌≡◌ {A = Result Page PageFault} (Ok p) (Err f) = sym h ∙ k in cc
