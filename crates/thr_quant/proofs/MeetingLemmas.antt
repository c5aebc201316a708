-- Where two ranges meet both give the same matrix, so the matrix is that of every range that holds the index. `matrix` cites these.
use Rattle.std.proofs.Common.{◌≡◌, ℕ, zero, suc, ◌+◌, ◌-◌, ◌*◌, ◌<◌, ◌≤◌, Bool, true, false, cond, List, [], ◌∷◌, length, get_or, find, map, All, Some, refl, ap, sym, ◌∙◌, arith}
use Rattle.std.specs.Cmp.{first_so, second_so}
use Rattle.std.proofs.Math.Dec.{leb}
use Rattle.std.proofs.lemmas.Bool.{leb-true}
use Rattle.std.proofs.lemmas.Nat.{div-mul-add}
use Rattle.std.proofs.lemmas.List.Elements.{All-head, All-tail}
use Rattle.std.specs.List.{range_with_len}
use Rattle.thr_quant.specs.declared.ranges.Range.{Range}
use Rattle.thr_quant.specs.Ramps.{Ramps}
use Rattle.thr_quant.specs.Matrix.{Stretch, holds, stretches, between, base_at, scale_at, scaled, least, entry_on, matrix_on}

-- at its last index a range gives the value there
between-last : (t : Stretch) (qi a b : ℕ) → t.first < t.last → t.last ≡ qi → between t qi a b ≡ b
unfolding between
between-last t qi a b some e =
    let none : t.last - qi ≡ 0 = omega arith in
    let size : qi - t.first ≡ t.last - t.first = omega arith in
    let sum : 2 * (t.last - qi) * a + 2 * (qi - t.first) * b + (t.last - t.first) ≡ b * (2 * (t.last - t.first)) + (t.last - t.first) = rw (none, size) (omega arith) in
    rw sum (div-mul-add b (2 * (t.last - t.first)) (t.last - t.first) (omega arith))

-- and at its first
between-first : (t : Stretch) (qi a b : ℕ) → t.first < t.last → t.first ≡ qi → between t qi a b ≡ a
unfolding between
between-first t qi a b some e =
    let none : qi - t.first ≡ 0 = omega arith in
    let size : t.last - qi ≡ t.last - t.first = omega arith in
    let sum : 2 * (t.last - qi) * a + 2 * (qi - t.first) * b + (t.last - t.first) ≡ a * (2 * (t.last - t.first)) + (t.last - t.first) = rw (none, size) (omega arith) in
    rw sum (div-mul-add a (2 * (t.last - t.first)) (t.last - t.first) (omega arith))

-- two ranges that meet at an index
matrix_on-meeting : (ramps : Ramps) (qti qi : ℕ) (t s : Stretch) → t.first < t.last → t.last ≡ qi → s.first < s.last → s.first ≡ qi → t.to ≡ s.from → matrix_on ramps qti qi t ≡ matrix_on ramps qti qi s
unfolding matrix_on entry_on base_at
matrix_on-meeting ramps qti qi t s left last right first same =
    let entries : (k : ℕ) → entry_on ramps qti qi t k ≡ entry_on ramps qti qi s k = λ k.
    ap (λ value. scaled (scale_at ramps qi k) value (least qti k))
    (between-last t qi _ _ left last ∙ ap (λ index. get_or (get_or ramps.matrices index []) k 0) same ∙ sym (between-first s qi _ _ right first)) in
    ap (λ (f : ℕ → ℕ). map f (range_with_len 0 64)) (λ i k. entries k i)

-- no range begins before the first
stretches-first : (first from k : ℕ) (list : List Range) (s : Stretch) → k < length (stretches first from list) → get_or (stretches first from list) k s ≡ s → first ≤ s.first
unfolding stretches
stretches-first first from k [] s there e = absurd (omega arith)
stretches-first first from zero (range ∷ list) s there e = omega (arith, ap (λ (t : Stretch). t.first) e)
stretches-first first from (suc k) (range ∷ list) s there e = omega (arith, stretches-first (first + range.size) range.next k list s (omega arith) e)

-- a range that begins there is the first
stretches-begins : (first from k : ℕ) (list : List Range) (s : Stretch) → All (λ (range : Range). 0 < range.size) list → k < length (stretches first from list)
    → get_or (stretches first from list) k s ≡ s → s.first ≤ first → (from ≡ s.from) × (s.first < s.last)
unfolding stretches
stretches-begins first from k [] s some there e begins = absurd (omega arith)
stretches-begins first from zero (range ∷ list) s some there e begins = (
  ap (λ (t : Stretch). t.from) e,
  omega (arith, ap (λ (t : Stretch). t.first) e, ap (λ (t : Stretch). t.last) e, All-head (λ (r : Range). 0 < r.size) range list some),
)
stretches-begins first from (suc k) (range ∷ list) s some there e begins =
    absurd (omega (arith, stretches-first (first + range.size) range.next k list s (omega arith) e, All-head (λ (r : Range). 0 < r.size) range list some))

-- a later range that holds an index of the first range begins where that ends
later : (ramps : Ramps) (qti qi first from k : ℕ) (range : Range) (list : List Range) (s : Stretch) → 0 < range.size → All (λ (range : Range). 0 < range.size) list
    → k < length (stretches (first + range.size) range.next list) → get_or (stretches (first + range.size) range.next list) k s ≡ s
    → leb first qi ≡ true → leb qi (first + range.size) ≡ true → leb s.first qi ≡ true
    → matrix_on ramps qti qi (record { first = first; last = first + range.size; from = from; to = range.next }) ≡ matrix_on ramps qti qi s
later ramps qti qi first from k range list s size some there e below within begun =
    let after : first + range.size ≤ s.first = stretches-first (first + range.size) range.next k list s there e in
    let least : s.first ≤ qi = leb-true s.first qi begun in
    let most : qi ≤ first + range.size = leb-true qi (first + range.size) within in
    let begins = stretches-begins (first + range.size) range.next k list s some there e (omega arith) in
    matrix_on-meeting ramps qti qi (record { first = first; last = first + range.size; from = from; to = range.next }) s (omega arith) (omega arith) begins.1 (omega arith) begins.0

-- every range that holds the index gives what the first gives
pub matrix_on-every : (ramps : Ramps) (qti qi first from k : ℕ) (list : List Range) (s t : Stretch) → All (λ (range : Range). 0 < range.size) list
    → k < length (stretches first from list) → get_or (stretches first from list) k s ≡ s → holds qi s ≡ true → find (holds qi) (stretches first from list) ≡ Some t
    → matrix_on ramps qti qi t ≡ matrix_on ramps qti qi s
unfolding stretches
matrix_on-every ramps qti qi first from k [] s t some there e held found = absurd (omega arith)
matrix_on-every ramps qti qi first from zero (range ∷ list) s t some there e held found =
    let here : holds qi (record { first = first; last = first + range.size; from = from; to = range.next }) ≡ true = ap (holds qi) e ∙ held in
    let hit = rw here at found in
    let same : record { first = first; last = first + range.size; from = from; to = range.next } ≡ t = cc in
    ap (matrix_on ramps qti qi) (sym same ∙ e)
matrix_on-every ramps qti qi first from (suc k) (range ∷ list) s t some there e held found =
    go (holds qi (record { first = first; last = first + range.size; from = from; to = range.next })) refl found
    (matrix_on-every ramps qti qi (first + range.size) range.next k list s t (All-tail (λ (r : Range). 0 < r.size) range list some) (omega arith) e held)
  where
    go : (b : Bool) → holds qi (record { first = first; last = first + range.size; from = from; to = range.next }) ≡ b
        → cond b (Some (record { first = first; last = first + range.size; from = from; to = range.next })) (find (holds qi) (stretches (first + range.size) range.next list)) ≡ Some t
        → (find (holds qi) (stretches (first + range.size) range.next list) ≡ Some t → matrix_on ramps qti qi t ≡ matrix_on ramps qti qi s)
        → matrix_on ramps qti qi t ≡ matrix_on ramps qti qi s
    go true here hit others =
        let same : record { first = first; last = first + range.size; from = from; to = range.next } ≡ t = cc in
        ap (matrix_on ramps qti qi) (sym same)
        ∙ later ramps qti qi first from k range list s (All-head (λ (r : Range). 0 < r.size) range list some) (All-tail (λ (r : Range). 0 < r.size) range list some) (omega arith) e
        (first_so (leb first qi) (leb qi (first + range.size)) here) (second_so (leb first qi) (leb qi (first + range.size)) here) (first_so (leb s.first qi) (leb qi s.last) held)
    go false here miss others = others miss
