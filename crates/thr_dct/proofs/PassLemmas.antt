-- Two passes by columns, with the rows and columns turned before the first and after it, are the rows and then the columns.
-- The functions of `block` cite these.
use Rattle.std.proofs.Common.{arith, refl, sym, ap, ◌∙◌, ◌≡◌, ◌<◌, ◌+◌, ◌*◌, ◌/◌, ◌%◌, ℕ, ℤ, pos, List, length, map}
use Rattle.std.proofs.lemmas.List.FromFn.{fill_by_all, get_or-map-range_with_len, length-map-range_with_len}
use Rattle.thr_dct.specs.Line.{entry, line}
use Rattle.thr_dct.specs.Inverse.{row, column, rows, columns, turned}
use Rattle.thr_dct.proofs.BlockLemmas.{same_numbers, mapped}

row_at : (block : List ℤ) (r k : ℕ) → k < 8 → entry (row block r) k ≡ entry block (8 * r + k)
unfolding row
row_at block r k below = get_or-map-range_with_len (λ j. entry block (8 * r + j)) 0 8 k k (pos 0) below (omega arith)

rows_at : (block : List ℤ) (p : ℕ) → p < 64 → entry (rows block) p ≡ entry (line (row block (p / 8))) (p % 8)
unfolding rows
rows_at block p below = get_or-map-range_with_len (λ p. entry (line (row block (p / 8))) (p % 8)) 0 64 p p (pos 0) below (omega arith)

length_rows : (block : List ℤ) → length (rows block) ≡ 64
unfolding rows
length_rows block = length-map-range_with_len (λ p. entry (line (row block (p / 8))) (p % 8)) 0 64

turned_at : (block : List ℤ) (p : ℕ) → p < 64 → entry (turned block) p ≡ entry block (8 * (p % 8) + p / 8)
unfolding turned
turned_at block p below = get_or-map-range_with_len (λ p. entry block (8 * (p % 8) + p / 8)) 0 64 p p (pos 0) below (omega arith)

length_turned : (block : List ℤ) → length (turned block) ≡ 64
unfolding turned
length_turned block = length-map-range_with_len (λ p. entry block (8 * (p % 8) + p / 8)) 0 64

turned_twice : (block : List ℤ) → length block ≡ 64 → turned (turned block) ≡ block
turned_twice block long =
    same_numbers (turned (turned block)) block (length_turned (turned block)) long
    (λ p below.
    let q : (8 * (p % 8) + p / 8) / 8 ≡ p % 8 = omega arith in
    let e : (8 * (p % 8) + p / 8) % 8 ≡ p / 8 = omega arith in
    let whole : 8 * (p / 8) + p % 8 ≡ p = omega arith in
    turned_at (turned block) p below ∙ rw (turned_at block (8 * (p % 8) + p / 8) (omega arith), q, e) (ap (λ k. entry block k) whole))

pub rows_by_columns : (block : List ℤ) → length block ≡ 64 → turned (columns (turned block)) ≡ rows block
unfolding columns
rows_by_columns block long = turned_twice (rows (turned (turned block))) (length_rows (turned (turned block))) ∙ ap rows (turned_twice block long)

-- a column is a row of the turned block
row_of_turned : (block : List ℤ) (j : ℕ) → j < 8 → row (turned block) j ≡ column block j
unfolding row column
row_of_turned block j below =
    fill_by_all (λ r. entry block (8 * r + j)) (row (turned block) j) 8 (pos 0) (length-map-range_with_len (λ k. entry (turned block) (8 * j + k)) 0 8)
    (λ k inside.
    let q : (8 * j + k) / 8 ≡ j = omega arith in
    let e : (8 * j + k) % 8 ≡ k = omega arith in
    row_at (turned block) j k inside ∙ rw (turned_at block (8 * j + k) (omega arith), q, e) refl)

column_at : (block : List ℤ) (p : ℕ) → p < 64 → entry (columns block) p ≡ entry (line (column block (p % 8))) (p / 8)
unfolding columns
column_at block p below =
    let column_below : p % 8 < 8 = omega arith in
    let q : (8 * (p % 8) + p / 8) / 8 ≡ p % 8 = omega arith in
    let e : (8 * (p % 8) + p / 8) % 8 ≡ p / 8 = omega arith in
    turned_at (rows (turned block)) p below
    ∙ rw (rows_at (turned block) (8 * (p % 8) + p / 8) (omega arith), q, e) (ap (λ y. entry (line y) (p / 8)) (row_of_turned block (p % 8) column_below))

length_columns : (block : List ℤ) → length (columns block) ≡ 64
unfolding columns
length_columns block = length_turned (rows (turned block))

-- the numbers of a block by the place of their row and column
by_place : (f : ℕ → ℤ) (out : List ℤ) → ((k j : ℕ) → k < 8 → j < 8 → entry out (8 * k + j) ≡ f (8 * k + j)) → (p : ℕ) → p < 64 → entry out p ≡ f p
by_place f out same p below =
    let row_below : p / 8 < 8 = omega arith in
    let column_below : p % 8 < 8 = omega arith in
    let whole : 8 * (p / 8) + p % 8 ≡ p = omega arith in
    sym (ap (λ k. entry out k) whole) ∙ same (p / 8) (p % 8) row_below column_below ∙ ap f whole

turned_place : (block : List ℤ) (k j : ℕ) → k < 8 → j < 8 → entry (row block j) k ≡ entry (turned block) (8 * k + j)
turned_place block k j below inside =
    let q : (8 * k + j) / 8 ≡ k = omega arith in
    let e : (8 * k + j) % 8 ≡ j = omega arith in
    row_at block j k below ∙ sym (rw (turned_at block (8 * k + j) (omega arith), q, e) refl)

column_place : (block : List ℤ) (k j : ℕ) → k < 8 → j < 8 → entry (line (column block j)) k ≡ entry (columns block) (8 * k + j)
column_place block k j below inside =
    let q : (8 * k + j) / 8 ≡ k = omega arith in
    let e : (8 * k + j) % 8 ≡ j = omega arith in
    sym (rw (column_at block (8 * k + j) (omega arith), q, e) refl)

pub turn_done : (block out : List ℤ) → length out ≡ 64
    → ((k j : ℕ) → k < 8 → j < 8 → entry out (8 * k + j) ≡ entry (row block j) k) → out ≡ turned block
turn_done block out long done =
    same_numbers out (turned block) long (length_turned block)
    (by_place (entry (turned block)) out (λ k j below inside. done k j below inside ∙ turned_place block k j below inside))

pub columns_done : (block out : List ℤ) → length out ≡ 64
    → ((k j : ℕ) → k < 8 → j < 8 → entry out (8 * k + j) ≡ entry (line (column block j)) k) → out ≡ columns block
columns_done block out long done =
    same_numbers out (columns block) long (length_columns block)
    (by_place (entry (columns block)) out (λ k j below inside. done k j below inside ∙ column_place block k j below inside))

pub mapped_columns_done : (f : ℤ → ℤ) (block out : List ℤ) → length out ≡ 64
    → ((k j : ℕ) → k < 8 → j < 8 → entry out (8 * k + j) ≡ f (entry (line (column block j)) k)) → out ≡ map f (columns block)
mapped_columns_done f block out long done =
    mapped f out (columns block) long (length_columns block)
    (by_place (λ p. f (entry (columns block) p)) out (λ k j below inside. done k j below inside ∙ ap f (column_place block k j below inside)))
