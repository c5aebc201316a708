-- Packets of pieces one behind the other, and of pages one behind the other. Walks from page to page, and the packets of written pages, cite these.
use Rattle.std.proofs.Common.{◌≡◌, ℕ, ◌+◌, true, false, List, [], ◌∷◌, ◌++◌, length, length-drop, take, drop, sum, nat_lt, if◌then◌else◌, refl, ap, sym, ◌∙◌, arith, take_all, append_assoc}
use Rattle.std.proofs.lemmas.List.{take-append-le, drop-append-le, nil_from_length}
use Rattle.std.proofs.lemmas.List.Sums.{sum_by-cons}
use Rattle.ogg_page.specs.Page.{Page}
use Rattle.ogg_page.specs.Packets.{Piece, segments, packets_from, left_from, segments_of, packets_of}

-- the packets of more pieces go on from the packet that is unfinished
pub packets_go_on : (front : List ℕ) (xs ys : List Piece) → packets_from front (xs ++ ys) ≡ packets_from front xs ++ packets_from (left_from front xs) ys
unfolding packets_from left_from
packets_go_on front [] ys = refl
packets_go_on front (x ∷ xs) ys =
    elim x.ends as (λ b. (if b then (front ++ x.bytes) ∷ packets_from [] (xs ++ ys) else packets_from (front ++ x.bytes) (xs ++ ys))
    ≡ (if b then (front ++ x.bytes) ∷ packets_from [] xs else packets_from (front ++ x.bytes) xs) ++ packets_from (if b then left_from [] xs else left_from (front ++ x.bytes) xs) ys) [
      | true ↦ ap (λ ps. (front ++ x.bytes) ∷ ps) (packets_go_on [] xs ys)
      | false ↦ packets_go_on (front ++ x.bytes) xs ys
    ]

-- and so does what they leave unfinished
pub left_goes_on : (front : List ℕ) (xs ys : List Piece) → left_from front (xs ++ ys) ≡ left_from (left_from front xs) ys
unfolding left_from
left_goes_on front [] ys = refl
left_goes_on front (x ∷ xs) ys =
    elim x.ends as (λ b. (if b then left_from [] (xs ++ ys) else left_from (front ++ x.bytes) (xs ++ ys)) ≡ left_from (if b then left_from [] xs else left_from (front ++ x.bytes) xs) ys) [
      | true ↦ left_goes_on [] xs ys
      | false ↦ left_goes_on (front ++ x.bytes) xs ys
    ]

-- the segments of pages behind pages
pub segments_of-append : (ps qs : List Page) → segments_of (ps ++ qs) ≡ segments_of ps ++ segments_of qs
unfolding segments_of
segments_of-append [] qs = refl
segments_of-append (p ∷ ps) qs = ap (λ s. segments p.lacing p.body ++ s) (segments_of-append ps qs) ∙ sym (append_assoc (segments p.lacing p.body) (segments_of ps) (segments_of qs))

-- the packets of pages behind pages
pub packets_of-append : (ps qs : List Page) → packets_of (ps ++ qs) ≡ packets_of ps ++ packets_from (left_from [] (segments_of ps)) (segments_of qs)
unfolding packets_of
packets_of-append ps qs = ap (packets_from []) (segments_of-append ps qs) ∙ packets_go_on [] (segments_of ps) (segments_of qs)

-- a page with one more segment
pub segments-more : (lacing body bytes : List ℕ) → sum lacing ≡ length body → segments (lacing ++ length bytes ∷ []) (body ++ bytes) ≡ segments lacing body ++ record { bytes = bytes; ends = nat_lt (length bytes) 255 } ∷ []
unfolding segments
segments-more [] body bytes h =
    let none : body ≡ [] = nil_from_length body (sym h) in
    rw none (ap (λ b. record { bytes = b; ends = nat_lt (length bytes) 255 } ∷ []) (take_all (length bytes) bytes (omega arith)))
segments-more (n ∷ ns) body bytes h =
    let whole : n + sum ns ≡ length body = sym (sum_by-cons (λ x. x) n ns) ∙ h in
    let front : take n (body ++ bytes) ≡ take n body = take-append-le n body bytes (omega arith) in
    let back : drop n (body ++ bytes) ≡ drop n body ++ bytes = drop-append-le n body bytes (omega arith) in
    rw (front, back) (ap (λ s. record { bytes = take n body; ends = nat_lt n 255 } ∷ s) (segments-more ns (drop n body) bytes (omega (arith, length-drop n body))))
