-- Where a page is read, the bytes that are written for its fields stand. read_page and read_window cite these.
use Rattle.std.proofs.Common.{◌≡◌, ℕ, zero, suc, ◌+◌, ◌-◌, ◌<◌, ◌≤◌, List, [], ◌∷◌, ◌++◌, length, take, drop, sum, get_or, All, Result, Ok, Err, IfOk, slice_index, ap, sym, ◌∙◌, arith, drop_at}
use Rattle.std.proofs.Math.Seq.{take-add, take-length, drop-cons}
use Rattle.std.proofs.lemmas.List.{length-take, length-drop, drop-drop}
use Rattle.std.proofs.lemmas.List.Elements.{All-take, All-drop}
use Rattle.std.proofs.lemmas.Nat.{le_bytes_4, le_bytes_8}
use Rattle.byteorder.specs.Endian.{little_bytes}
use Rattle.ogg_page.specs.declared.fault.PageFault.{PageFault}
use Rattle.ogg_page.specs.declared.page.PageRef.{PageRef}
use Rattle.ogg_page.specs.Division.{checksum_of}
use Rattle.ogg_page.specs.Page.{Page, page_at_front, GivesPage, view, capture, number_at, lacing_of, body_of, size_of, bytes_of_page}
use Rattle.ogg_page.specs.Written.{page_of, head_of, tail_of, written_page}
use Rattle.ogg_page.proofs.PageLemmas.{page_is, page_begins, bytes_of_page-is}

-- what stands at a place of bytes, or 0 behind them, is below 256
each_byte : (xs : List ℕ) → All (λ b. b ≤ 255) xs → (i : ℕ) → get_or xs i 0 < 256
each_byte [] h i = omega arith
each_byte (x ∷ xs) h zero = let first : x ≤ 255 = h 0 0 (omega arith) in omega arith
each_byte (x ∷ xs) h (suc i) = each_byte xs (λ k d lt. h (suc k) d (omega arith)) i

field_bytes : (n at : ℕ) (bytes : List ℕ) → All (λ b. b ≤ 255) bytes → (i : ℕ) → get_or (take n (drop at bytes)) i 0 < 256
field_bytes n at bytes small = each_byte (take n (drop at bytes)) (All-take (λ b. b ≤ 255) n (drop at bytes) (All-drop (λ b. b ≤ 255) at bytes small))

field_length : (n at : ℕ) (bytes : List ℕ) → at + n ≤ length bytes → length (take n (drop at bytes)) ≡ n
field_length n at bytes h = omega (arith, length-take n (drop at bytes), length-drop at bytes)

-- a field is the bytes of its number
field4 : (at : ℕ) (bytes : List ℕ) → at + 4 ≤ length bytes → All (λ b. b ≤ 255) bytes → take 4 (drop at bytes) ≡ little_bytes 4 (number_at 4 at bytes)
field4 at bytes h small = sym (le_bytes_4 (take 4 (drop at bytes)) (number_at 4 at bytes) (field_length 4 at bytes h) (field_bytes 4 at bytes small) (omega arith))

field8 : (at : ℕ) (bytes : List ℕ) → at + 8 ≤ length bytes → All (λ b. b ≤ 255) bytes → take 8 (drop at bytes) ≡ little_bytes 8 (number_at 8 at bytes)
field8 at bytes h small = sym (le_bytes_8 (take 8 (drop at bytes)) (number_at 8 at bytes) (field_length 8 at bytes h) (field_bytes 8 at bytes small) (omega arith))

-- bytes from a place on are some of them and then the others
cut : (m n at : ℕ) (bytes : List ℕ) → take (m + n) (drop at bytes) ≡ take m (drop at bytes) ++ take n (drop (at + m) bytes)
cut m n at bytes = take-add m n (drop at bytes) ∙ ap (λ t. take m (drop at bytes) ++ take n t) (drop-drop m at bytes)

-- the bytes before the checksum
head_is : (bytes : List ℕ) (page : Page) → All (λ b. b ≤ 255) bytes → page_at_front bytes ≡ Ok page → take 22 bytes ≡ head_of page.flags page.granule page.serial page.number
head_is bytes page small h =
    let is = page_is bytes page h in
    let long : 27 ≤ length bytes = is.0 in
    let begins = page_begins bytes page h in
    let flags : slice_index bytes 5 ≡ page.flags = ap (λ p. p.flags) is.2 in
    let granule : take 8 (drop 6 bytes) ≡ little_bytes 8 page.granule = field8 6 bytes (omega arith) small ∙ ap (λ p. little_bytes 8 p.granule) is.2 in
    let serial : take 4 (drop 14 bytes) ≡ little_bytes 4 page.serial = field4 14 bytes (omega arith) small ∙ ap (λ p. little_bytes 4 p.serial) is.2 in
    let number : take 4 (drop 18 bytes) ≡ little_bytes 4 page.number = field4 18 bytes (omega arith) small ∙ ap (λ p. little_bytes 4 p.number) is.2 in
    let two : drop 4 bytes ≡ slice_index bytes 4 ∷ (slice_index bytes 5 ∷ drop 6 bytes) = drop-cons bytes 4 0 (omega arith) ∙ ap (λ t. slice_index bytes 4 ∷ t) (drop-cons bytes 5 0 (omega arith)) in
    cut 4 18 0 bytes
    ∙ (λ i. begins.0 i ++ take 18 (two i))
    ∙ (λ i. capture ++ (begins.1 i ∷ (flags i ∷ take 16 (drop 6 bytes))))
    ∙ ap (λ t. capture ++ (0 ∷ (page.flags ∷ t))) (cut 12 4 6 bytes ∙ ap (λ t. t ++ take 4 (drop 18 bytes)) (cut 8 4 6 bytes))
    ∙ (λ i. capture ++ (0 ∷ (page.flags ∷ (granule i ++ serial i ++ number i))))

-- the bytes behind it
tail_is : (bytes : List ℕ) (page : Page) → page_at_front bytes ≡ Ok page → take (size_of bytes - 26) (drop 26 bytes) ≡ tail_of page.lacing page.body
tail_is bytes page h =
    let is = page_is bytes page h in
    let long : 27 ≤ length bytes = is.0 in
    let whole : size_of bytes ≤ length bytes = is.1 in
    let lacing : lacing_of bytes ≡ page.lacing = ap (λ p. p.lacing) is.2 in
    let body : body_of bytes ≡ page.body = ap (λ p. p.body) is.2 in
    let count : length (lacing_of bytes) ≡ slice_index bytes 26 = field_length (slice_index bytes 26) 27 bytes (omega arith) in
    let rest : size_of bytes - 26 ≡ suc (slice_index bytes 26 + sum (lacing_of bytes)) = omega arith in
    (λ i. take (rest i) (drop-cons bytes 26 0 (omega arith) i))
    ∙ ap (λ t. slice_index bytes 26 ∷ t) (cut (slice_index bytes 26) (sum (lacing_of bytes)) 27 bytes)
    ∙ (λ i. sym count i ∷ (lacing_of bytes ++ body_of bytes))
    ∙ (λ i. length (lacing i) ∷ (lacing i ++ body i))

-- what stands in the field does not count for the checksum
checksum-any : (flags granule serial number : ℕ) (field tail : List ℕ) → length field ≡ 4
    → checksum_of (head_of flags granule serial number ++ field ++ tail) ≡ checksum_of (head_of flags granule serial number ++ (0 ∷ 0 ∷ 0 ∷ 0 ∷ tail))
unfolding checksum_of
checksum-any flags granule serial number field tail h =
    ap (λ t. checksum_of (head_of flags granule serial number ++ (0 ∷ 0 ∷ 0 ∷ 0 ∷ t))) (drop_at field tail 4 h)

-- the bytes that a page takes are what is written for its fields, whatever its flags
pub front-written : (bytes : List ℕ) (page : Page) → All (λ b. b ≤ 255) bytes → page_at_front bytes ≡ Ok page → take (bytes_of_page page) bytes ≡ written_page page
unfolding page_of
front-written bytes page small h =
    let is = page_is bytes page h in
    let long : 27 ≤ length bytes = is.0 in
    let head : List ℕ = head_of page.flags page.granule page.serial page.number in
    let tail : List ℕ = tail_of page.lacing page.body in
    let field : List ℕ = take 4 (drop 22 bytes) in
    let size : size_of bytes ≡ 22 + 4 + (size_of bytes - 26) = omega arith in
    let parts : take (size_of bytes) bytes ≡ head ++ field ++ tail =
    ap (λ n. take n bytes) size ∙ cut (22 + 4) (size_of bytes - 26) 0 bytes ∙ ap (λ t. t ++ take (size_of bytes - 26) (drop 26 bytes)) (cut 22 4 0 bytes)
    ∙ (λ i. head_is bytes page small h i ++ field ++ tail_is bytes page h i) in
    let sum_is : number_at 4 22 bytes ≡ checksum_of (head ++ (0 ∷ 0 ∷ 0 ∷ 0 ∷ tail)) =
    (page_begins bytes page h).2 ∙ ap checksum_of parts ∙ checksum-any page.flags page.granule page.serial page.number field tail (field_length 4 22 bytes (omega arith)) in
    ap (λ n. take n bytes) (bytes_of_page-is bytes page h).0
    ∙ parts
    ∙ ap (λ f. head ++ f ++ tail) (field4 22 bytes (omega arith) small ∙ ap (little_bytes 4) sum_is)

-- a slice from a place on
pub from_place : (at : ℕ) (bytes : List ℕ) → take (length bytes - at) (drop at bytes) ≡ drop at bytes
from_place at bytes = ap (λ n. take n (drop at bytes)) (sym (length-drop at bytes)) ∙ take-length (drop at bytes)

-- of an answer
pub answer-written : (result : Result PageRef PageFault) (bytes : List ℕ) → All (λ b. b ≤ 255) bytes → GivesPage result (page_at_front bytes)
    → IfOk result (λ page. take (bytes_of_page (view page)) bytes ≡ written_page (view page))
answer-written (Ok page) bytes small given = front-written bytes (view page) small given
answer-written (Err fault) bytes small given = tt

pub answer-begins : (result : Result PageRef PageFault) (bytes : List ℕ) → GivesPage result (page_at_front bytes) → IfOk result (λ page. take 4 bytes ≡ capture)
answer-begins (Ok page) bytes given = (page_begins bytes (view page) given).0
answer-begins (Err fault) bytes given = tt
