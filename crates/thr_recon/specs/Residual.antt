-- Dequantised coefficients and residuals of a block (Theora I, 7.9.2 and 7.9.4). c holds the block's coefficients in zigzag order; dc is the entry of a
-- quantiser matrix for the first of them, and ac holds the entries of one for the others, in natural order.
use Rattle.std.specs.Prelude.{ℕ, zero, suc, ℤ, pos, ◌+ℤ◌, ◌*ℤ◌, nat_lt, List, [], ◌∷◌, get_or, map, replicate, if◌then◌else◌}
use Rattle.std.specs.Int.{int_shr}
use Rattle.std.specs.List.{range_with_len}
use Rattle.thr_dct.specs.Line.{cut, entry}
use Rattle.thr_dct.specs.Inverse.{inverse_of}

-- where the coefficient of each place of the natural order stands in zigzag order, row after row (Theora I, 2.6)
abbrev pub zigzag : List ℕ
zigzag =
    0 ∷ 1 ∷ 5 ∷ 6 ∷ 14 ∷ 15 ∷ 27 ∷ 28
    ∷ 2 ∷ 4 ∷ 7 ∷ 13 ∷ 16 ∷ 26 ∷ 29 ∷ 42
    ∷ 3 ∷ 8 ∷ 12 ∷ 17 ∷ 25 ∷ 30 ∷ 41 ∷ 43
    ∷ 9 ∷ 11 ∷ 18 ∷ 24 ∷ 31 ∷ 40 ∷ 44 ∷ 53
    ∷ 10 ∷ 19 ∷ 23 ∷ 32 ∷ 39 ∷ 45 ∷ 52 ∷ 54
    ∷ 20 ∷ 22 ∷ 33 ∷ 38 ∷ 46 ∷ 51 ∷ 55 ∷ 60
    ∷ 21 ∷ 34 ∷ 37 ∷ 47 ∷ 50 ∷ 56 ∷ 59 ∷ 61
    ∷ 35 ∷ 36 ∷ 48 ∷ 49 ∷ 57 ∷ 58 ∷ 62 ∷ 63 ∷ []

-- a coefficient times its entry, cut to 16 bits
unfoldable pub product : ℤ → ℕ → ℤ
product coefficient factor = cut (coefficient *ℤ pos factor)

-- the entry for that place of the natural order
unfoldable pub factor_at : ℕ → List ℕ → ℕ → ℕ
factor_at dc ac zero = dc
factor_at dc ac (suc p) = get_or ac (suc p) 0

-- each coefficient times its entry, in natural order
unfoldable pub dequantised : List ℤ → ℕ → List ℕ → List ℤ
dequantised c dc ac = map (λ p. product (entry c (get_or zigzag p 0)) (factor_at dc ac p)) (range_with_len 0 64)

-- every residual of a block that has no coefficient behind the first: here the product is not cut
unfoldable pub short_residual : ℤ → ℕ → ℤ
short_residual first dc = cut (int_shr (first *ℤ pos dc +ℤ pos 15) 5)

-- the residuals in natural order; count is the place in zigzag order at which the block's tokens ended
unfoldable pub residual_of : List ℤ → ℕ → ℕ → List ℕ → List ℤ
residual_of c count dc ac = if nat_lt count 2 then replicate 64 (short_residual (entry c 0) dc) else inverse_of (dequantised c dc ac)
