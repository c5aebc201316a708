-- The forward transform by two passes (private). f gives the eight numbers of a line, u counts the rows of the table B.
use Rattle.std.specs.Prelude.{ℕ, ℤ, ◌*ℤ◌, ◌+◌, ◌*◌, ◌/◌, ◌%◌, List, map}
use Rattle.std.specs.List.{range_with_len}
use Rattle.thr_dct.specs.Line.{entry}
use Rattle.thr_dct.specs.Forward.{basis, over_eight}

-- the sum of a line by that row of the table
unfoldable pub sum_by_row : (ℕ → ℤ) → ℕ → ℤ
sum_by_row f u = over_eight (λ x. basis u x *ℤ f x)

-- its sums by the eight rows
unfoldable pub sums : (ℕ → ℤ) → List ℤ
sums f = map (sum_by_row f) (range_with_len 0 8)

-- the sums of each row of a block, which become a column
unfoldable pub summed_rows : List ℤ → List ℤ
summed_rows block = map (λ p. sum_by_row (λ x. entry block (8 * (p % 8) + x)) (p / 8)) (range_with_len 0 64)
