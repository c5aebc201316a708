-- The lacing values of pages that are kept stay where they are when others come behind them. `Pages::push` cites these.
use Rattle.std.proofs.Common.{◌≡◌, ℕ, ◌+◌, ◌≤◌, List, [], ◌∷◌, ◌++◌, length, length-drop, take, drop, map, All, refl, ap, ◌∙◌, arith}
use Rattle.std.proofs.lemmas.List.{drop-append-le, take-append-le, map-append, length-append}
use Rattle.std.proofs.lemmas.List.Elements.{All-head, All-tail, All-cons, All-nil, All-append}
use Rattle.std.proofs.Math.Seq.{drop-append_seam, take-length}
use Rattle.src_index.specs.declared.pages.Mark.{Mark}
use Rattle.src_index.specs.Pages.{mark_of}

-- the lacing values of a page, where others stand behind them
inside_stays : (xs ys : List ℕ) (first count : ℕ) → first + count ≤ length xs → take count (drop first (xs ++ ys)) ≡ take count (drop first xs)
inside_stays xs ys first count h =
    ap (take count) (drop-append-le first xs ys (omega (arith, h))) ∙ take-append-le count (drop first xs) ys (omega (arith, h, length-drop first xs))

-- those of all pages
pub marks_stay : (xs ys : List ℕ) (marks : List Mark) → All (λ mark. mark.first + mark.count ≤ length xs) marks → map (mark_of (xs ++ ys)) marks ≡ map (mark_of xs) marks
marks_stay xs ys [] inside = refl
marks_stay xs ys (mark ∷ marks) inside =
    let here : mark_of (xs ++ ys) mark ≡ mark_of xs mark = ap (λ lacing. record { at = mark.at; checksum = mark.checksum; lacing = lacing }) (inside_stays xs ys mark.first mark.count (All-head (λ m. m.first + m.count ≤ length xs) mark marks inside)) in
    ap (λ m. m ∷ map (mark_of (xs ++ ys)) marks) here ∙ ap (λ ms. mark_of xs mark ∷ ms) (marks_stay xs ys marks (All-tail (λ m. m.first + m.count ≤ length xs) mark marks inside))

-- one page more
pub marks_more : (xs ys : List ℕ) (marks : List Mark) (at checksum : ℕ) → All (λ mark. mark.first + mark.count ≤ length xs) marks
    → map (mark_of (xs ++ ys)) (marks ++ record { at = at; first = length xs; checksum = checksum; count = length ys } ∷ []) ≡ map (mark_of xs) marks ++ record { at = at; checksum = checksum; lacing = ys } ∷ []
marks_more xs ys marks at checksum inside =
    map-append (mark_of (xs ++ ys)) marks (record { at = at; first = length xs; checksum = checksum; count = length ys } ∷ [])
    ∙ ap (λ ms. ms ++ mark_of (xs ++ ys) (record { at = at; first = length xs; checksum = checksum; count = length ys }) ∷ []) (marks_stay xs ys marks inside)
    ∙ ap (λ lacing. map (mark_of xs) marks ++ record { at = at; checksum = checksum; lacing = lacing } ∷ []) (ap (take (length ys)) (drop-append_seam xs ys) ∙ take-length ys)

-- each page's lacing values lie among those of all
pub inside_more : (xs ys : List ℕ) (marks : List Mark) (at checksum : ℕ) → All (λ mark. mark.first + mark.count ≤ length xs) marks
    → All (λ mark. mark.first + mark.count ≤ length (xs ++ ys)) (marks ++ record { at = at; first = length xs; checksum = checksum; count = length ys } ∷ [])
inside_more xs ys marks at checksum inside =
    let P : Mark → Type 0 = λ mark. mark.first + mark.count ≤ length (xs ++ ys) in
    All-append P marks (record { at = at; first = length xs; checksum = checksum; count = length ys } ∷ [])
    (λ k d low. omega (arith, inside k d low, length-append xs ys))
    (All-cons P (record { at = at; first = length xs; checksum = checksum; count = length ys }) [] (omega (arith, length-append xs ys)) (All-nil P))

-- where all lie inside so many, they lie inside more
pub inside_longer : (n m : ℕ) (marks : List Mark) → n ≤ m → All (λ mark. mark.first + mark.count ≤ n) marks → All (λ mark. mark.first + mark.count ≤ m) marks
inside_longer n m marks le inside = λ k d low. omega (arith, inside k d low, le)
