-- A page that is written is read back, with whatever bytes behind it. write_page and the writers of whole streams cite these.
use Rattle.std.proofs.Common.{◌≡◌, ℕ, ◌+◌, ◌^◌, ◌<◌, false, not, List, [], ◌∷◌, ◌++◌, length, length-append, take, drop, sum, Ok, ◌==◌, refl, ap, sym, ◌∙◌, arith, eq-eqb, le-ltb, take_at, drop_at, take_all, append_assoc, append-nil, drop-drop}
use Rattle.std.proofs.lemmas.Nat.{from_le_bytes-to_le_bytes_4, from_le_bytes-to_le_bytes_8}
use Rattle.std.specs.Str.{bytes_eq}
use Rattle.byteorder.specs.Endian.{little_number, little_bytes}
use Rattle.ogg_page.specs.Division.{checksum_of}
use Rattle.ogg_page.specs.Page.{Page, page_at_front, capture, number_at, lacing_of, body_of, size_of, is_short, ArePages}
use Rattle.ogg_page.specs.Written.{page_of, head_of, tail_of, written_page, written_pages}
use Rattle.ogg_page.proofs.DivisionLemmas.{checksum-lt}
use Rattle.ogg_page.proofs.PageLemmas.{first_of_four, by_parts}
use Rattle.ogg_page.proofs.PagesLemmas.{ArePages-append, ArePages-one}

-- a number of four bytes is read back
pub little4 : (n : ℕ) → n < 2 ^ 32 → little_number 4 (little_bytes 4 n) ≡ n
little4 n h = omega (arith, from_le_bytes-to_le_bytes_4 n h)

-- a number of eight bytes is read back
pub little8 : (n : ℕ) → n < 2 ^ 64 → little_number 8 (little_bytes 8 n) ≡ n
little8 n h = omega (arith, from_le_bytes-to_le_bytes_8 n h)

-- a checksum is that of the page with any number in its place
pub checksum_of-page_of : (flags granule serial number : ℕ) (lacing body : List ℕ) → checksum_of (page_of flags granule serial number lacing body) ≡ checksum_of (head_of flags granule serial number ++ (0 ∷ 0 ∷ 0 ∷ 0 ∷ tail_of lacing body))
unfolding page_of checksum_of
checksum_of-page_of flags granule serial number lacing body = refl

-- how many bytes a page has
pub length-page_of : (flags granule serial number : ℕ) (lacing body : List ℕ) → length (page_of flags granule serial number lacing body) ≡ 27 + length lacing + length body
unfolding page_of
length-page_of flags granule serial number lacing body = omega (arith, length-append lacing body)

drop-page_of : (flags granule serial number : ℕ) (lacing body rest : List ℕ) → drop 27 (page_of flags granule serial number lacing body ++ rest) ≡ lacing ++ (body ++ rest)
unfolding page_of
drop-page_of flags granule serial number lacing body rest = append_assoc lacing body rest

-- a page with nothing wrong
all_right : (c : ℕ) (page : Page) → first_of_four (not (bytes_eq capture capture)) false false (c == c) page ≡ Ok page
unfolding first_of_four
all_right c page = rw (eq-eqb c c refl) refl

-- the fields of a page are read back
pub page_read : (flags granule serial number : ℕ) (lacing body rest : List ℕ) → granule < 2 ^ 64 → serial < 2 ^ 32 → number < 2 ^ 32 → sum lacing ≡ length body
    → page_at_front (page_of flags granule serial number lacing body ++ rest) ≡ Ok (record { flags = flags; granule = granule; serial = serial; number = number; lacing = lacing; body = body })
unfolding page_of
page_read flags granule serial number lacing body rest hg hs hn shape =
    let page : List ℕ = page_of flags granule serial number lacing body in
    let c : ℕ = checksum_of (head_of flags granule serial number ++ (0 ∷ 0 ∷ 0 ∷ 0 ∷ tail_of lacing body)) in
    let long : length page ≡ 27 + length lacing + length body = length-page_of flags granule serial number lacing body in
    let all : length (page ++ rest) ≡ length page + length rest = length-append page rest in
    let wanted : take (length (page ++ rest)) capture ≡ capture = take_all (length (page ++ rest)) capture (omega (arith, all, long)) in
    let laced : lacing_of (page ++ rest) ≡ lacing = ap (take (length lacing)) (drop-page_of flags granule serial number lacing body rest) ∙ take_at lacing (body ++ rest) (length lacing) refl in
    let size : size_of (page ++ rest) ≡ length page = ap (λ l. 27 + length lacing + sum l) laced ∙ omega (arith, long) in
    let short : is_short (page ++ rest) ≡ false = rw (size, le-ltb (length (page ++ rest)) 27 (omega (arith, long, all)), le-ltb (length (page ++ rest)) (length page) (omega (arith, all))) refl in
    let found : number_at 4 22 (page ++ rest) ≡ c = little4 c (checksum-lt _) in
    let whole : take (size_of (page ++ rest)) (page ++ rest) ≡ page = ap (λ k. take k (page ++ rest)) size ∙ take_at page rest (length page) refl in
    let right : checksum_of (take (size_of (page ++ rest)) (page ++ rest)) ≡ c = ap checksum_of whole ∙ checksum_of-page_of flags granule serial number lacing body in
    let granule_is : number_at 8 6 (page ++ rest) ≡ granule = little8 granule hg in
    let serial_is : number_at 4 14 (page ++ rest) ≡ serial = little4 serial hs in
    let number_is : number_at 4 18 (page ++ rest) ≡ number = little4 number hn in
    let behind : drop (27 + length lacing) (page ++ rest) ≡ body ++ rest = sym (drop-drop (length lacing) 27 (page ++ rest)) ∙ ap (drop (length lacing)) (drop-page_of flags granule serial number lacing body rest) ∙ drop_at lacing (body ++ rest) (length lacing) refl in
    let body_is : body_of (page ++ rest) ≡ body = (λ i. take (sum (laced i)) (behind i)) ∙ take_at body rest (sum lacing) (sym shape) in
    by_parts (page ++ rest)
    ∙ (λ i. first_of_four (not (bytes_eq capture (wanted i))) false (short i) (found i == right i) (record { flags = flags; granule = granule_is i; serial = serial_is i; number = number_is i; lacing = laced i; body = body_is i }))
    ∙ all_right c _

-- a page whose numbers fit into their fields, and whose lacing bytes count its body
pub record IsWritable (page : Page) : Type 0 where
  pub granule : page.granule < 2 ^ 64
  pub serial : page.serial < 2 ^ 32
  pub number : page.number < 2 ^ 32
  pub shape : sum page.lacing ≡ length page.body

unfoldable pub AllWritable : List Page → Type 0
AllWritable [] = Unit {0}
AllWritable (page ∷ pages) = IsWritable page × AllWritable pages

-- the bytes of one page are that page
pub ArePages-written_page : (page : Page) → IsWritable page → ArePages (written_page page) (page ∷ [])
ArePages-written_page page fits =
    ArePages-one (written_page page) page
    (ap page_at_front (sym (append-nil (written_page page))) ∙ page_read page.flags page.granule page.serial page.number page.lacing page.body [] fits.granule fits.serial fits.number fits.shape)
    (length-page_of page.flags page.granule page.serial page.number page.lacing page.body)

-- the bytes of pages are those pages
pub ArePages-written_pages : (pages : List Page) → AllWritable pages → ArePages (written_pages pages) pages
unfolding written_pages AllWritable ArePages
ArePages-written_pages [] fits = refl
ArePages-written_pages (page ∷ pages) fits =
    ArePages-append (written_page page) (written_pages pages) (page ∷ []) pages (ArePages-written_page page fits.0) (ArePages-written_pages pages fits.1)
