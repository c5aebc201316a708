-- The inverse transform of a block (Theora I, 7.9.3.2). A block is 64 numbers in natural order: the number of row r and
-- column j stands at place 8 * r + j.
use Rattle.std.specs.Prelude.{ℕ, ℤ, pos, ◌+ℤ◌, ◌+◌, ◌*◌, ◌/◌, ◌%◌, List, map}
use Rattle.std.specs.Int.{int_shr}
use Rattle.std.specs.List.{range_with_len}
use Rattle.thr_dct.specs.Line.{entry, line}

-- that row of a block
unfoldable pub row : List ℤ → ℕ → List ℤ
row block r = map (λ j. entry block (8 * r + j)) (range_with_len 0 8)

-- that column of a block
unfoldable pub column : List ℤ → ℕ → List ℤ
column block j = map (λ r. entry block (8 * r + j)) (range_with_len 0 8)

-- each row goes through the transform of one line
unfoldable pub rows : List ℤ → List ℤ
rows block = map (λ p. entry (line (row block (p / 8))) (p % 8)) (range_with_len 0 64)

-- rows become columns
unfoldable pub turned : List ℤ → List ℤ
turned block = map (λ p. entry block (8 * (p % 8) + p / 8)) (range_with_len 0 64)

-- each column goes through the transform of one line
unfoldable pub columns : List ℤ → List ℤ
columns block = turned (rows (turned block))

-- a sixteenth, to the nearest number and halves upwards
unfoldable pub settled : ℤ → ℤ
settled x = int_shr (x +ℤ pos 8) 4

-- the rows first, then the columns, then a sixteenth of each number
unfoldable pub inverse_of : List ℤ → List ℤ
inverse_of block = map settled (columns (rows block))
