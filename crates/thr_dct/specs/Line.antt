-- The inverse transform of one line of eight numbers (Theora I, 7.9.3.1). The names are the standard's: c1 to c7 for its
-- constants C1 to C7, y for what goes in, x for what comes out.
use Rattle.std.specs.Prelude.{ℕ, ℤ, pos, neg_ℤ, ◌+ℤ◌, ◌-ℤ◌, ◌*ℤ◌, ◌≤ℤ◌, List, [], ◌∷◌, get_or}
use Rattle.std.specs.Int.{int_shr, int_wrap, w16}

-- 65536 times the cosine of that many sixteenths of a half turn, to the nearest number
abbrev pub c1 : ℤ
c1 = pos 64277

abbrev pub c2 : ℤ
c2 = pos 60547

abbrev pub c3 : ℤ
c3 = pos 54491

abbrev pub c4 : ℤ
c4 = pos 46341

abbrev pub c5 : ℤ
c5 = pos 36410

abbrev pub c6 : ℤ
c6 = pos 25080

abbrev pub c7 : ℤ
c7 = pos 12785

-- the product by such a constant, 65536 of which are one, rounded downwards
unfoldable pub m : ℤ → ℤ → ℤ
m c v = int_shr (c *ℤ v) 16

-- the low 16 bits, as a signed number
unfoldable pub cut : ℤ → ℤ
cut v = int_wrap w16 v

-- the number at that place
abbrev pub entry : List ℤ → ℕ → ℤ
entry ys k = get_or ys k (pos 0)

-- eight numbers of one line after the transform
unfoldable pub line : List ℤ → List ℤ
line y =
    let t0 = m c4 (cut (entry y 0 +ℤ entry y 4)) in
    let t1 = m c4 (cut (entry y 0 -ℤ entry y 4)) in
    let t2 = m c6 (entry y 2) -ℤ m c2 (entry y 6) in
    let t3 = m c2 (entry y 2) +ℤ m c6 (entry y 6) in
    let t4 = m c7 (entry y 1) -ℤ m c1 (entry y 7) in
    let t5 = m c3 (entry y 5) -ℤ m c5 (entry y 3) in
    let t6 = m c5 (entry y 5) +ℤ m c3 (entry y 3) in
    let t7 = m c1 (entry y 1) +ℤ m c7 (entry y 7) in
    let a5 = m c4 (cut (t4 -ℤ t5)) in
    let a6 = m c4 (cut (t7 -ℤ t6)) in
    let e0 = t0 +ℤ t3 in
    let e1 = t1 +ℤ t2 in
    let e2 = t1 -ℤ t2 in
    let e3 = t0 -ℤ t3 in
    let o0 = t7 +ℤ t6 in
    let o1 = a6 +ℤ a5 in
    let o2 = a6 -ℤ a5 in
    let o3 = t4 +ℤ t5 in
    cut (e0 +ℤ o0) ∷ cut (e1 +ℤ o1) ∷ cut (e2 +ℤ o2) ∷ cut (e3 +ℤ o3)
    ∷ cut (e3 -ℤ o3) ∷ cut (e2 -ℤ o2) ∷ cut (e1 -ℤ o1) ∷ cut (e0 -ℤ o0) ∷ []

-- a number from -n to n
pub record Within (n : ℕ) (v : ℤ) : Type 0 where
  pub low : neg_ℤ (pos n) ≤ℤ v
  pub high : v ≤ℤ pos n
