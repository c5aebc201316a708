-- Pages one behind the other, packets on a page, and the granule shift. The reader of a plain source cites these.
use Rattle.std.proofs.Common.{◌≡◌, ℕ, zero, suc, ◌+◌, ◌-◌, ◌*◌, ◌/◌, ◌%◌, ◌<◌, ◌≤◌, Bool, true, false, List, [], ◌∷◌, ◌++◌, length, take, drop, get_or, sum, All, Ok, Err, Option, Some, None, refl, ap, sym, ◌∙◌, arith, append_assoc, drop-cons, length-drop, cond, nat_lt}
use Rattle.std.proofs.lemmas.List.{append-nil, drop-drop, length-take-le}
use Rattle.std.proofs.lemmas.List.Sums.{sum_by-cons, sum_by-append}
use Rattle.std.proofs.lemmas.List.Elements.{All-append, All-cons, All-nil}
use Rattle.std.proofs.Math.Seq.{take-add, take-length}
use Rattle.std.proofs.lemmas.Bool.{lt-ltb, le-ltb}
use Rattle.vid_base.specs.Bits.{bits_of, take_bits, number}
use Rattle.vid_base.proofs.NumberLemmas.{taken-some, taken-none}
use Rattle.vid_base.proofs.DigitLemmas.{length-bits_of}
use Rattle.ogg_page.specs.Page.{Page, page_at_front, ArePages, bytes_of_page}
use Rattle.ogg_page.specs.Packets.{segments, packets_from}
use Rattle.ogg_page.proofs.PageLemmas.{page_is}
use Rattle.ogg_page.specs.declared.fault.PageFault.{PageFault}
use Rattle.cut_slice.specs.Plain.{shift_of}
use Rattle.cut_slice.specs.Copy.{IsShort, lacing_count}

-- no pages begin where there is no page
pub no_pages : (bytes : List ℕ) (fault : PageFault) (pages : List Page) → 0 < length bytes → page_at_front bytes ≡ Err fault → ArePages bytes pages → ⊥
unfolding ArePages
no_pages bytes fault [] some bad fill = omega (arith, ap length fill)
no_pages bytes fault (page ∷ pages) some bad fill = let same : Ok page ≡ Err fault = sym (fill.0) ∙ bad in cc

-- one page more in front of those that fill the rest
pub front_step : (bytes : List ℕ) (at : ℕ) (front : List Page) (page : Page) → page_at_front (drop at bytes) ≡ Ok page
    → ((more : List Page) → ArePages (drop at bytes) more → ArePages bytes (front ++ more))
    → (more : List Page) → ArePages (drop (at + bytes_of_page page) bytes) more → ArePages bytes ((front ++ page ∷ []) ++ more)
unfolding ArePages
front_step bytes at front page read fill more rest =
    let behind : drop (bytes_of_page page) (drop at bytes) ≡ drop (at + bytes_of_page page) bytes = drop-drop (bytes_of_page page) at bytes in
    rw (append_assoc) (fill (page ∷ more) (read, rw behind rest))

-- pages behind a page that was read
second_is : (bytes : List ℕ) (at : ℕ) (page : Page) (more : List Page) → at < length bytes → page_at_front (drop at bytes) ≡ Ok page → ArePages (drop at bytes) more
    → (rest : List Page) × (more ≡ page ∷ rest) × ArePages (drop (at + bytes_of_page page) bytes) rest
unfolding ArePages
second_is bytes at page [] there read fill = absurd (omega (arith, ap length fill, length-drop at bytes))
second_is bytes at page (p ∷ more) there read fill =
    let same : p ≡ page = cc in
    let behind : drop (bytes_of_page p) (drop at bytes) ≡ drop (at + bytes_of_page page) bytes = drop-drop (bytes_of_page p) at bytes ∙ ap (λ q. drop (at + bytes_of_page q) bytes) same in
    (more, ap (λ q. q ∷ more) same, rw behind at (fill.1))

-- all pages of the bytes have it in this place
pub only_step : (bytes : List ℕ) (at : ℕ) (front : List Page) (page : Page) → at < length bytes → page_at_front (drop at bytes) ≡ Ok page
    → ((all : List Page) → ArePages bytes all → (more : List Page) × (all ≡ front ++ more) × ArePages (drop at bytes) more)
    → (all : List Page) → ArePages bytes all → (more : List Page) × (all ≡ (front ++ page ∷ []) ++ more) × ArePages (drop (at + bytes_of_page page) bytes) more
only_step bytes at front page there read only all fill =
    let before = only all fill in
    let found = second_is bytes at page before.0 there read before.2 in
    (found.0, before.1 ∙ ap (λ m. front ++ m) found.1 ∙ sym (append_assoc front (page ∷ []) found.0), found.2)

none_left : {A : Type 0} (xs : List A) → length xs ≡ 0 → xs ≡ []
none_left [] h = refl
none_left (x ∷ xs) h = absurd (omega arith)

-- where the bytes end the pages fill them
pub front_end : (bytes : List ℕ) (at : ℕ) (front : List Page) → length bytes ≤ at
    → ((more : List Page) → ArePages (drop at bytes) more → ArePages bytes (front ++ more)) → ArePages bytes front
unfolding ArePages
front_end bytes at front past fill =
    let none : drop at bytes ≡ [] = none_left (drop at bytes) (length-drop at bytes ∙ omega arith) in
    rw append-nil at (fill [] none)

-- and no others do
pub only_end : (bytes : List ℕ) (at : ℕ) (front : List Page) → length bytes ≤ at
    → ((all : List Page) → ArePages bytes all → (more : List Page) × (all ≡ front ++ more) × ArePages (drop at bytes) more)
    → (all : List Page) → ArePages bytes all → all ≡ front
unfolding ArePages
only_end bytes at front past only all fill = go (only all fill).0 (only all fill).1 (only all fill).2
  where
    go : (more : List Page) → all ≡ front ++ more → ArePages (drop at bytes) more → all ≡ front
    go [] e f = e ∙ append-nil front
    go (p ∷ more) e f = let some = (page_is (drop at bytes) p (f.0)).0 in absurd (omega (arith, some, length-drop at bytes))

-- a piece of the body behind another
pub slice_grows : (body : List ℕ) (first at n : ℕ) → first ≤ at → take (at + n - first) (drop first body) ≡ take (at - first) (drop first body) ++ take n (drop at body)
slice_grows body first at n h =
    let size : at + n - first ≡ (at - first) + n = omega arith in
    let place : drop (at - first) (drop first body) ≡ drop at body = let back : first + (at - first) ≡ at = omega arith in drop-drop (at - first) first body ∙ ap (λ k. drop k body) back in
    rw size (take-add (at - first) n (drop first body) ∙ ap (λ d. take (at - first) (drop first body) ++ take n d) place)

head_ends : (front body : List ℕ) (n : ℕ) (ns : List ℕ) → nat_lt n 255 ≡ true → packets_from front (segments (n ∷ ns) body) ≡ (front ++ take n body) ∷ packets_from [] (segments ns (drop n body))
unfolding packets_from segments
head_ends front body n ns ends = rw ends refl

head_goes_on : (front body : List ℕ) (n : ℕ) (ns : List ℕ) → nat_lt n 255 ≡ false → packets_from front (segments (n ∷ ns) body) ≡ packets_from (front ++ take n body) (segments ns (drop n body))
unfolding packets_from segments
head_goes_on front body n ns more = rw more refl

lacing_split : (lacing : List ℕ) (i n : ℕ) → i < length lacing → n ≡ get_or lacing i 0 → drop i lacing ≡ n ∷ drop (i + 1) lacing
lacing_split lacing i n there e =
    let next : suc i ≡ i + 1 = omega arith in
    drop-cons lacing i 0 there ∙ ap (λ k. get_or lacing i 0 ∷ drop k lacing) next ∙ ap (λ x. x ∷ drop (i + 1) lacing) (sym e)

-- a segment that ends its packet
pub ends_here : (all : List (List ℕ)) (body lacing : List ℕ) (first at i n : ℕ) → first ≤ at → i < length lacing → n ≡ get_or lacing i 0 → n < 255
    → (all ++ take (at + n - first) (drop first body) ∷ []) ++ packets_from [] (segments (drop (i + 1) lacing) (drop (at + n) body))
    ≡ all ++ packets_from (take (at - first) (drop first body)) (segments (drop i lacing) (drop at body))
ends_here all body lacing first at i n h there e small =
    let front = take (at - first) (drop first body) in
    let rest = drop (i + 1) lacing in
    let read : packets_from front (segments (drop i lacing) (drop at body)) ≡ take (at + n - first) (drop first body) ∷ packets_from [] (segments rest (drop (at + n) body)) =
    ap (λ l. packets_from front (segments l (drop at body))) (lacing_split lacing i n there e)
    ∙ head_ends front (drop at body) n rest (lt-ltb n 255 small)
    ∙ ap (λ p. p ∷ packets_from [] (segments rest (drop n (drop at body)))) (sym (slice_grows body first at n h))
    ∙ ap (λ d. take (at + n - first) (drop first body) ∷ packets_from [] (segments rest d)) (drop-drop n at body) in
    append_assoc all (take (at + n - first) (drop first body) ∷ []) (packets_from [] (segments rest (drop (at + n) body))) ∙ ap (λ p. all ++ p) (sym read)

-- a segment with which its packet goes on
pub goes_on : (all : List (List ℕ)) (body lacing : List ℕ) (first at i n : ℕ) → first ≤ at → i < length lacing → n ≡ get_or lacing i 0 → 255 ≤ n
    → all ++ packets_from (take (at + n - first) (drop first body)) (segments (drop (i + 1) lacing) (drop (at + n) body))
    ≡ all ++ packets_from (take (at - first) (drop first body)) (segments (drop i lacing) (drop at body))
goes_on all body lacing first at i n h there e large =
    let front = take (at - first) (drop first body) in
    let rest = drop (i + 1) lacing in
    let read : packets_from front (segments (drop i lacing) (drop at body)) ≡ packets_from (take (at + n - first) (drop first body)) (segments rest (drop (at + n) body)) =
    ap (λ l. packets_from front (segments l (drop at body))) (lacing_split lacing i n there e)
    ∙ head_goes_on front (drop at body) n rest (le-ltb n 255 large)
    ∙ ap (λ p. packets_from p (segments rest (drop n (drop at body)))) (sym (slice_grows body first at n h))
    ∙ ap (λ d. packets_from (take (at + n - first) (drop first body)) (segments rest d)) (drop-drop n at body) in
    ap (λ p. all ++ p) (sym read)

-- what is left of the lacing bytes counts one less
pub sum_left : (lacing : List ℕ) (i n : ℕ) → i < length lacing → n ≡ get_or lacing i 0 → sum (drop i lacing) ≡ n + sum (drop (i + 1) lacing)
sum_left lacing i n there e = ap sum (lacing_split lacing i n there e) ∙ sum_by-cons (λ x. x) n (drop (i + 1) lacing)

-- no packet ends behind the last segment
pub packets_end : (all : List (List ℕ)) (front body lacing : List ℕ) (i : ℕ) → length lacing ≤ i → all ++ packets_from front (segments (drop i lacing) body) ≡ all
unfolding packets_from segments
packets_end all front body lacing i past =
    let none : drop i lacing ≡ [] = none_left (drop i lacing) (length-drop i lacing ∙ omega arith) in
    rw none (append-nil all)

-- bits of whole bytes that are left out
drop-bits_of : (k : ℕ) (bytes : List ℕ) → drop (8 * k) (bits_of bytes) ≡ bits_of (drop k bytes)
unfolding bits_of
drop-bits_of zero bytes = refl
drop-bits_of (suc k) [] = let e : 8 * suc k ≡ suc (7 + 8 * k) = omega arith in rw e refl
drop-bits_of (suc k) (b ∷ bytes) =
    let e : 8 * suc k ≡ suc (suc (suc (suc (suc (suc (suc (suc (8 * k)))))))) = omega arith in
    rw e (drop-bits_of k bytes)

taken_value : (n v : ℕ) (bits rest : List Bool) → take_bits n bits ≡ Some (v, rest) → v ≡ number (take n bits)
unfolding take_bits
taken_value n v bits rest e = go (nat_lt (length bits) n) e
  where
    go : (t : Bool) → ◌≡◌ {A = Option (ℕ × List Bool)} (cond t None (Some (number (take n bits), drop n bits))) (Some (v, rest)) → v ≡ number (take n bits)
    go true e = cc
    go false e = ap first_of (sym e)
      where
        first_of : Option (ℕ × List Bool) → ℕ
        first_of None = 0
        first_of (Some pair) = pair.0

-- enough bits are there
pub some_bits : (n : ℕ) (ident : List ℕ) (left : List Bool) → 42 ≤ length ident → left ≡ bits_of (drop 40 ident) → n ≤ 16 → take_bits n left ≡ None → ⊥
some_bits n ident left long e small none = omega (arith, taken-none n left none, ap length e, length-bits_of (drop 40 ident), length-drop 40 ident)

pub more_bits : (v : ℕ) (ident : List ℕ) (left next : List Bool) → 42 ≤ length ident → left ≡ bits_of (drop 40 ident) → take_bits 6 left ≡ Some (v, next) → take_bits 5 next ≡ None → ⊥
more_bits v ident left next long e some none =
    let behind : drop 6 left ≡ next = (taken-some 6 v left next some).1 in
    omega (arith, taken-none 5 next none, ap length (sym behind), length-drop 6 left, ap length e, length-bits_of (drop 40 ident), length-drop 40 ident)

-- the shift stands 6 bits behind byte 40
pub shift_is : (v shift : ℕ) (ident : List ℕ) (left next rest : List Bool) → left ≡ bits_of (drop 40 ident) → take_bits 6 left ≡ Some (v, next) → take_bits 5 next ≡ Some (shift, rest) → shift ≡ shift_of ident
shift_is v shift ident left next rest e some more =
    let behind : drop 6 left ≡ next = (taken-some 6 v left next some).1 in
    let place : drop 326 (bits_of ident) ≡ next = sym (drop-drop 6 320 (bits_of ident)) ∙ ap (drop 6) (drop-bits_of 40 ident ∙ sym e) ∙ behind in
    taken_value 5 shift next rest more ∙ ap (λ bits. number (take 5 bits)) (sym place)

-- all bytes from a place on
pub tail_bits : (ident : List ℕ) (left : List Bool) → left ≡ bits_of (take (length ident - 40) (drop 40 ident)) → left ≡ bits_of (drop 40 ident)
tail_bits ident left e =
    let all : take (length ident - 40) (drop 40 ident) ≡ drop 40 ident = ap (λ n. take n (drop 40 ident)) (sym (length-drop 40 ident)) ∙ take-length (drop 40 ident) in
    e ∙ ap bits_of all

pub sub_same : (n : ℕ) → n - n ≡ 0
sub_same n = omega arith

-- one packet more
pub count-snoc : (all : List (List ℕ)) (packet : List ℕ) → lacing_count (all ++ packet ∷ []) ≡ lacing_count all + (length packet / 255 + 1)
count-snoc all packet = sum_by-append (λ p. length p / 255 + 1) all (packet ∷ []) ∙ ap (λ n. lacing_count all + n) (sum_by-cons (λ p. length p / 255 + 1) packet [] ∙ omega arith)

pub short-snoc : (all : List (List ℕ)) (packet : List ℕ) → All IsShort all → IsShort packet → All IsShort (all ++ packet ∷ [])
short-snoc all packet short one = All-append IsShort all (packet ∷ []) short (All-cons IsShort packet [] one (All-nil IsShort))

-- a packet of m lacing values of 255 and one below it
pub size_of_packet : (body : List ℕ) (first at n : ℕ) → first ≤ at → at + n ≤ length body → (at - first) % 255 ≡ 0 → n < 255 → length (take (at + n - first) (drop first body)) / 255 ≡ (at - first) / 255
size_of_packet body first at n order room whole small =
    let size : length (take (at + n - first) (drop first body)) ≡ (at - first) + n = length-take-le (at + n - first) (drop first body) (omega (arith, length-drop first body)) ∙ omega arith in
    rw size (omega arith)
