-- The forward transform of a block (own; Theora I, 7.9.3.3 has only advice). A block is 64 numbers in natural order, as in
-- Inverse. v and u count the rows and columns of coefficients, y and x those of residuals.
use Rattle.std.specs.Prelude.{ℕ, ℤ, pos, neg_ℤ, ◌+ℤ◌, ◌*ℤ◌, ◌+◌, ◌*◌, ◌/◌, ◌%◌, ◌^◌, List, [], ◌∷◌, map, get_or}
use Rattle.std.specs.Int.{int_shr}
use Rattle.std.specs.List.{range_with_len}
use Rattle.thr_dct.specs.Line.{entry, c1, c2, c3, c4, c5, c6, c7}

-- row u of the table B: 65536 times the cosine of u * (2 * x + 1) sixteenths of a half turn for each x, but c4 in row 0
unfoldable pub table : List (List ℤ)
table =
    (c4 ∷ c4 ∷ c4 ∷ c4 ∷ c4 ∷ c4 ∷ c4 ∷ c4 ∷ [])
    ∷ (c1 ∷ c3 ∷ c5 ∷ c7 ∷ neg_ℤ c7 ∷ neg_ℤ c5 ∷ neg_ℤ c3 ∷ neg_ℤ c1 ∷ [])
    ∷ (c2 ∷ c6 ∷ neg_ℤ c6 ∷ neg_ℤ c2 ∷ neg_ℤ c2 ∷ neg_ℤ c6 ∷ c6 ∷ c2 ∷ [])
    ∷ (c3 ∷ neg_ℤ c7 ∷ neg_ℤ c1 ∷ neg_ℤ c5 ∷ c5 ∷ c1 ∷ c7 ∷ neg_ℤ c3 ∷ [])
    ∷ (c4 ∷ neg_ℤ c4 ∷ neg_ℤ c4 ∷ c4 ∷ c4 ∷ neg_ℤ c4 ∷ neg_ℤ c4 ∷ c4 ∷ [])
    ∷ (c5 ∷ neg_ℤ c1 ∷ c7 ∷ c3 ∷ neg_ℤ c3 ∷ neg_ℤ c7 ∷ c1 ∷ neg_ℤ c5 ∷ [])
    ∷ (c6 ∷ neg_ℤ c2 ∷ c2 ∷ neg_ℤ c6 ∷ neg_ℤ c6 ∷ c2 ∷ neg_ℤ c2 ∷ c6 ∷ [])
    ∷ (c7 ∷ neg_ℤ c5 ∷ c3 ∷ neg_ℤ c1 ∷ c1 ∷ neg_ℤ c3 ∷ c5 ∷ neg_ℤ c7 ∷ [])
    ∷ []

-- B[u][x]
unfoldable pub basis : ℕ → ℕ → ℤ
basis u x = entry (get_or table u []) x

-- the sum over the places 0 to 7
unfoldable pub over_eight : (ℕ → ℤ) → ℤ
over_eight f = f 0 +ℤ f 1 +ℤ f 2 +ℤ f 3 +ℤ f 4 +ℤ f 5 +ℤ f 6 +ℤ f 7

-- the sum over y and x of B[v][y] * B[u][x] * r[y][x]
unfoldable pub double_sum : List ℤ → ℕ → ℕ → ℤ
double_sum r v u = over_eight (λ y. over_eight (λ x. basis v y *ℤ (basis u x *ℤ entry r (8 * y + x))))

-- 2^32 of which are one: to the nearest number, and halves upwards
unfoldable pub scaled_down : ℤ → ℤ
scaled_down s = int_shr (s +ℤ pos (2 ^ 31)) 32

-- the coefficient of row v and column u is the double sum, scaled down
unfoldable pub forward_of : List ℤ → List ℤ
forward_of r = map (λ p. scaled_down (double_sum r (p / 8) (p % 8))) (range_with_len 0 64)
