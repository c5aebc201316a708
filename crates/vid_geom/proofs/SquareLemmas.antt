-- Where a grid's cells stand when it is walked through square by square. The tables and the coded order cite these.
use Rattle.std.proofs.Common.{◌≡◌, ◌∙◌, ℕ, zero, suc, ◌+◌, ◌-◌, ◌*◌, ◌/◌, ◌%◌, ◌<◌, ◌≤◌, min, Bool, ◌&&◌, nat_lt, ◌==◌, List, map, filter, refl, ap, arith, rules, lit<}
use Rattle.std.specs.List.{flat_map, range_with_len, All, Contains, position_or_len}
use Rattle.std.specs.Int.{div_ceil}
use Rattle.std.proofs.lemmas.Grind.{div_ceil_times}
use Rattle.std.proofs.lemmas.Nat.{div-mul-add, mod-mul-add}
use Rattle.std.proofs.Math.Nat.{mul_comm}
use Rattle.std.proofs.lemmas.List.Elements.{All-filter, All-weaker, All-from_recursion}
use Rattle.std.proofs.lemmas.Bool.Decides.{nat_tests}
use Rattle.vid_geom.specs.Squares.{Cell, Grid, Walk, Hilbert, Clockwise, cell, side_of, path_of, moved, inside, square, squares_across, squares_up, square_row, squares, joined, cells}
use Rattle.vid_geom.proofs.ListLemmas.{filter_agree, filter-map, joined-map, joined-flat_map}
use Rattle.vid_geom.proofs.NumberLemmas.{Numbered, Numbered-map, Numbered-flat_map}

-- a number under so many is one of them
below_two : (P : ℕ → Type 0) → P 0 → P 1 → (n : ℕ) → n < 2 → P n
below_two P a b zero h = a
below_two P a b (suc zero) h = b
below_two P a b (suc (suc n)) h = absurd (omega arith)

below_three : (P : ℕ → Type 0) → P 0 → P 1 → P 2 → (n : ℕ) → n < 3 → P n
below_three P a b c zero h = a
below_three P a b c (suc n) h = below_two (λ k. P (suc k)) b c n (omega arith)

below_four : (P : ℕ → Type 0) → P 0 → P 1 → P 2 → P 3 → (n : ℕ) → n < 4 → P n
below_four P a b c d zero h = a
below_four P a b c d (suc n) h = below_three (λ k. P (suc k)) b c d n (omega arith)

below_five : (P : ℕ → Type 0) → P 0 → P 1 → P 2 → P 3 → P 4 → (n : ℕ) → n < 5 → P n
below_five P a b c d e zero h = a
below_five P a b c d e (suc n) h = below_four (λ k. P (suc k)) b c d e n (omega arith)

-- whether a cell is among the first columns and rows
abbrev pub within : ℕ → ℕ → Cell → Bool
within columns rows c = nat_lt c.col columns && nat_lt c.row rows

-- the part of a walk that lies there
unfoldable pub clipped : Walk → ℕ → ℕ → List Cell
clipped w columns rows = filter (within columns rows) (path_of w)

abbrev pub same_cell : Cell → Cell → Bool
same_cell a b = a.col == b.col && a.row == b.row

-- how many cells of that part come before a cell
unfoldable pub rank : Walk → ℕ → ℕ → Cell → ℕ
rank w columns rows c = position_or_len (same_cell c) (clipped w columns rows)

-- the cells of each clipped walk are counted from 0, and are as many as the clip has
abbrev IsCounted : Walk → ℕ → ℕ → Type 0
IsCounted w columns rows = Numbered (rank w columns rows) 0 (columns * rows) (clipped w columns rows)

counted_hilbert : (rows : ℕ) → rows < 5 → (columns : ℕ) → columns < 5 → IsCounted Hilbert columns rows
unfolding rank clipped
counted_hilbert = below_five (λ rows. (columns : ℕ) → columns < 5 → IsCounted Hilbert columns rows)
    (below_five (λ columns. IsCounted Hilbert columns 0) (record { numbers = refl; long = refl }) (record { numbers = refl; long = refl }) (record { numbers = refl; long = refl }) (record { numbers = refl; long = refl }) (record { numbers = refl; long = refl }))
    (below_five (λ columns. IsCounted Hilbert columns 1) (record { numbers = refl; long = refl }) (record { numbers = refl; long = refl }) (record { numbers = refl; long = refl }) (record { numbers = refl; long = refl }) (record { numbers = refl; long = refl }))
    (below_five (λ columns. IsCounted Hilbert columns 2) (record { numbers = refl; long = refl }) (record { numbers = refl; long = refl }) (record { numbers = refl; long = refl }) (record { numbers = refl; long = refl }) (record { numbers = refl; long = refl }))
    (below_five (λ columns. IsCounted Hilbert columns 3) (record { numbers = refl; long = refl }) (record { numbers = refl; long = refl }) (record { numbers = refl; long = refl }) (record { numbers = refl; long = refl }) (record { numbers = refl; long = refl }))
    (below_five (λ columns. IsCounted Hilbert columns 4) (record { numbers = refl; long = refl }) (record { numbers = refl; long = refl }) (record { numbers = refl; long = refl }) (record { numbers = refl; long = refl }) (record { numbers = refl; long = refl }))

counted_clockwise : (rows : ℕ) → rows < 3 → (columns : ℕ) → columns < 3 → IsCounted Clockwise columns rows
unfolding rank clipped
counted_clockwise = below_three (λ rows. (columns : ℕ) → columns < 3 → IsCounted Clockwise columns rows)
    (below_three (λ columns. IsCounted Clockwise columns 0) (record { numbers = refl; long = refl }) (record { numbers = refl; long = refl }) (record { numbers = refl; long = refl }))
    (below_three (λ columns. IsCounted Clockwise columns 1) (record { numbers = refl; long = refl }) (record { numbers = refl; long = refl }) (record { numbers = refl; long = refl }))
    (below_three (λ columns. IsCounted Clockwise columns 2) (record { numbers = refl; long = refl }) (record { numbers = refl; long = refl }) (record { numbers = refl; long = refl }))

counted : (w : Walk) (columns rows : ℕ) → columns ≤ side_of w → rows ≤ side_of w → IsCounted w columns rows
counted Hilbert columns rows a b = counted_hilbert rows (omega arith) columns (omega arith)
counted Clockwise columns rows a b = counted_clockwise rows (omega arith) columns (omega arith)

-- each cell of a square is on the walk
on_hilbert : (row : ℕ) → row < 4 → (col : ℕ) → col < 4 → Contains (path_of Hilbert) (cell col row)
on_hilbert = below_four (λ row. (col : ℕ) → col < 4 → Contains (path_of Hilbert) (cell col row))
    (below_four (λ col. Contains (path_of Hilbert) (cell col 0)) (0, lit< tt, refl) (1, lit< tt, refl) (14, lit< tt, refl) (15, lit< tt, refl))
    (below_four (λ col. Contains (path_of Hilbert) (cell col 1)) (3, lit< tt, refl) (2, lit< tt, refl) (13, lit< tt, refl) (12, lit< tt, refl))
    (below_four (λ col. Contains (path_of Hilbert) (cell col 2)) (4, lit< tt, refl) (7, lit< tt, refl) (8, lit< tt, refl) (11, lit< tt, refl))
    (below_four (λ col. Contains (path_of Hilbert) (cell col 3)) (5, lit< tt, refl) (6, lit< tt, refl) (9, lit< tt, refl) (10, lit< tt, refl))

on_clockwise : (row : ℕ) → row < 2 → (col : ℕ) → col < 2 → Contains (path_of Clockwise) (cell col row)
on_clockwise = below_two (λ row. (col : ℕ) → col < 2 → Contains (path_of Clockwise) (cell col row))
    (below_two (λ col. Contains (path_of Clockwise) (cell col 0)) (0, lit< tt, refl) (3, lit< tt, refl))
    (below_two (λ col. Contains (path_of Clockwise) (cell col 1)) (1, lit< tt, refl) (2, lit< tt, refl))

pub on_path : (w : Walk) (col row : ℕ) → col < side_of w → row < side_of w → Contains (path_of w) (cell col row)
on_path Hilbert col row a b = on_hilbert row (omega arith) col (omega arith)
on_path Clockwise col row a b = on_clockwise row (omega arith) col (omega arith)

pub side_positive : (w : Walk) → 0 < side_of w
side_positive Hilbert = lit< tt
side_positive Clockwise = lit< tt

-- a cell of a walk lies in its square
abbrev IsSmall : Walk → Cell → Type 0
IsSmall w c = (c.col < side_of w) × (c.row < side_of w)

path_small : (w : Walk) → All (IsSmall w) (path_of w)
path_small Hilbert = All-from_recursion (IsSmall Hilbert) (path_of Hilbert) (search rules)
path_small Clockwise = All-from_recursion (IsSmall Clockwise) (path_of Clockwise) (search rules)

-- a test behind a shift, where the square is cut at the edge
lt_moved : (x side shift size : ℕ) → x < side → nat_lt (shift + x) size ≡ nat_lt x (min side (size - shift))
lt_moved x side shift size h = grind (arith, nat_tests)

-- columns and rows of a square that lie in the grid
abbrev pub wide : Grid → ℕ → ℕ
wide g col = min (side_of g.walk) (g.width - side_of g.walk * col)

abbrev pub high : Grid → ℕ → ℕ
high g row = min (side_of g.walk) (g.height - side_of g.walk * row)

-- how many cells stand before a square: the rows of cells below it, and in its own row of squares what is left of it
unfoldable pub first_of : Grid → ℕ → ℕ → ℕ
first_of g col row = min (side_of g.walk * row) g.height * g.width + min (side_of g.walk * col) g.width * high g row

-- a cell's number: how many cells stand before it
unfoldable pub number_in : Grid → Cell → ℕ
number_in g c =
    let side = side_of g.walk in
    first_of g (c.col / side) (c.row / side) + rank g.walk (wide g (c.col / side)) (high g (c.row / side)) (cell (c.col % side) (c.row % side))

-- a square is the part of the walk that lies in the grid
square_is : (g : Grid) (col row : ℕ) → square g col row ≡ map (moved (side_of g.walk * col) (side_of g.walk * row)) (clipped g.walk (wide g col) (high g row))
unfolding square moved clipped
square_is g col row =
    let side : ℕ = side_of g.walk in
    filter-map (inside g) (moved (side * col) (side * row)) (path_of g.walk)
    ∙ ap (map (moved (side * col) (side * row))) (filter_agree (λ c. inside g (moved (side * col) (side * row) c)) (within (wide g col) (high g row)) (path_of g.walk)
    (All-weaker (IsSmall g.walk) (λ c. inside g (moved (side * col) (side * row) c) ≡ within (wide g col) (high g row) c) (λ c small.
    rw (lt_moved c.col side (side * col) g.width small.0, lt_moved c.row side (side * row) g.height small.1) refl) (path_of g.walk) (path_small g.walk)))

-- the number of a cell of a square
number_moved : (g : Grid) (col row : ℕ) (c : Cell) → IsSmall g.walk c → number_in g (moved (side_of g.walk * col) (side_of g.walk * row) c) ≡ first_of g col row + rank g.walk (wide g col) (high g row) c
unfolding number_in moved
number_moved g col row c small =
    let side : ℕ = side_of g.walk in
    let a : (side * col + c.col) / side ≡ col = rw (mul_comm side col) (div-mul-add col side c.col small.0) in
    let b : (side * row + c.row) / side ≡ row = rw (mul_comm side row) (div-mul-add row side c.row small.1) in
    let x : (side * col + c.col) % side ≡ c.col = rw (mul_comm side col) (mod-mul-add col side c.col small.0) in
    let y : (side * row + c.row) % side ≡ c.row = rw (mul_comm side row) (mod-mul-add row side c.row small.1) in
    rw (a, b, x, y) refl

clipped_same : (g : Grid) (col row : ℕ) → All (λ c. number_in g (moved (side_of g.walk * col) (side_of g.walk * row) c) ≡ first_of g col row + rank g.walk (wide g col) (high g row) c) (clipped g.walk (wide g col) (high g row))
unfolding clipped
clipped_same g col row = All-weaker (IsSmall g.walk) (λ c. number_in g (moved (side_of g.walk * col) (side_of g.walk * row) c) ≡ first_of g col row + rank g.walk (wide g col) (high g row) c) (number_moved g col row) (clipped g.walk (wide g col) (high g row))
    (All-filter (within (wide g col) (high g row)) (IsSmall g.walk) (path_of g.walk) (path_small g.walk))

pub square_counted : (g : Grid) (col row : ℕ) → Numbered (number_in g) (first_of g col row) (first_of g col row + wide g col * high g row) (square g col row)
square_counted g col row =
    let side : ℕ = side_of g.walk in
    let own : Numbered (rank g.walk (wide g col) (high g row)) 0 (wide g col * high g row) (clipped g.walk (wide g col) (high g row)) = counted g.walk (wide g col) (high g row) (omega arith) (omega arith) in
    let whole : Numbered (number_in g) (first_of g col row + 0) (first_of g col row + wide g col * high g row) (map (moved (side * col) (side * row)) (clipped g.walk (wide g col) (high g row))) =
    Numbered-map (number_in g) (moved (side * col) (side * row)) (rank g.walk (wide g col) (high g row)) (first_of g col row) 0 (wide g col * high g row) (clipped g.walk (wide g col) (high g row))
    (clipped_same g col row) own in
    let e : first_of g col row + 0 ≡ first_of g col row = omega arith in
    rw (square_is g col row) (rw e at whole)

-- a length that squares cover grows by what is left for one more of them
covered_more : (side n k : ℕ) → min (side * (k + 1)) n ≡ min (side * k) n + min side (n - side * k)
covered_more side n k = let e : side * (k + 1) ≡ side * k + side = grind arith in rw e (omega arith)

first_of_right : (g : Grid) (col row : ℕ) → first_of g (col + 1) row ≡ first_of g col row + wide g col * high g row
unfolding first_of
first_of_right g col row = rw (covered_more (side_of g.walk) g.width col) (grind arith)

-- squares cover the grid
pub covers : (w : Walk) (n : ℕ) → (n ≤ side_of w * div_ceil n (side_of w)) × (side_of w * div_ceil n (side_of w) < n + side_of w)
covers w n = let h = div_ceil_times n (side_of w) (side_positive w) in rw (mul_comm (side_of w) (div_ceil n (side_of w))) h

first_of_next_row : (g : Grid) (row : ℕ) → first_of g (squares_across g) row ≡ first_of g 0 (row + 1)
unfolding first_of
first_of_next_row g row =
    let whole : min (side_of g.walk * squares_across g) g.width ≡ g.width = omega (arith, covers g.walk g.width) in
    let none : min (side_of g.walk * 0) g.width ≡ 0 = omega arith in
    rw (whole, none, covered_more (side_of g.walk) g.height row) (grind arith)

-- some squares of a row from the left
pub columns_counted : (g : Grid) (row n : ℕ) → Numbered (number_in g) (first_of g 0 row) (first_of g n row) (joined (map (λ col. square g col row) (range_with_len 0 n)))
columns_counted g row n =
    let step : (k : ℕ) → k < 0 + n → Numbered (number_in g) (first_of g k row) (first_of g (k + 1) row) (square g k row) = λ k h. rw (first_of_right g k row) (square_counted g k row) in
    let all : Numbered (number_in g) (first_of g 0 row) (first_of g (0 + n) row) (flat_map (λ col. square g col row) (range_with_len 0 n)) = Numbered-flat_map (number_in g) (λ col. square g col row) (λ col. first_of g col row) 0 n step in
    let e : 0 + n ≡ n = omega arith in
    rw (joined-map (λ col. square g col row) (range_with_len 0 n)) (rw e at all)

row_counted : (g : Grid) (k : ℕ) → Numbered (number_in g) (first_of g 0 k) (first_of g 0 (k + 1)) (joined (square_row g k))
unfolding square_row
row_counted g k = rw (← first_of_next_row g k) (columns_counted g k (squares_across g))

-- some rows of squares from the bottom
pub rows_counted : (g : Grid) (n : ℕ) → Numbered (number_in g) (first_of g 0 0) (first_of g 0 n) (joined (flat_map (square_row g) (range_with_len 0 n)))
rows_counted g n =
    let all : Numbered (number_in g) (first_of g 0 0) (first_of g 0 (0 + n)) (flat_map (λ row. joined (square_row g row)) (range_with_len 0 n)) = Numbered-flat_map (number_in g) (λ row. joined (square_row g row)) (λ row. first_of g 0 row) 0 n (λ k h. row_counted g k) in
    let e : 0 + n ≡ n = omega arith in
    rw (joined-flat_map (square_row g) (range_with_len 0 n)) (rw e at all)

pub first_of_start : (g : Grid) → first_of g 0 0 ≡ 0
unfolding first_of
first_of_start g = grind arith

-- all cells of a grid are counted from 0, and are as many as it has
pub cells_counted : (g : Grid) → Numbered (number_in g) 0 (g.width * g.height) (cells g)
unfolding cells squares first_of
cells_counted g =
    let all = rows_counted g (squares_up g) in
    let start : min (side_of g.walk * 0) g.height * g.width + min (side_of g.walk * 0) g.width * high g 0 ≡ 0 = grind arith in
    let end : min (side_of g.walk * squares_up g) g.height * g.width + min (side_of g.walk * 0) g.width * high g (squares_up g) ≡ g.width * g.height =
    (let whole : min (side_of g.walk * squares_up g) g.height ≡ g.height = omega (arith, covers g.walk g.height) in
    let none : min (side_of g.walk * 0) g.width ≡ 0 = omega arith in
    rw (whole, none) (grind arith)) in
    rw (start, end) at all
