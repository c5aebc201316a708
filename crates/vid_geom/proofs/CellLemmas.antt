-- Each cell of a grid is walked through, and each square has the places that its own place tells. The tables and the coded
-- order cite these.
use Rattle.std.proofs.Common.{◌≡◌, ◌∙◌, ℕ, zero, suc, ◌+◌, ◌*◌, ◌/◌, ◌%◌, ◌<◌, ◌≤◌, min, true, List, [], ◌++◌, length, get_or, take, map, Some, slice_get, refl, sym, ap, arith, length-append}
use Rattle.std.specs.List.{flat_map, range_with_len, All, Contains}
use Rattle.std.specs.Int.{div_ceil}
use Rattle.std.proofs.Math.Nat.{mul_comm, div-add-mod}
use Rattle.std.proofs.lemmas.Nat.{div_below, mod_below, row_fits, column_fits, mul-le, div-add-mod'}
use Rattle.std.proofs.lemmas.Bool.Decides.{nat_tests}
use Rattle.std.proofs.lemmas.List.Elements.{All-map, filter_passes}
use Rattle.vid_geom.specs.Squares.{Cell, Grid, cell, side_of, path_of, moved, inside, square, squares_across, squares_up, square_row, squares, joined, cells}
use Rattle.vid_geom.specs.CodedOrder.{ranges_from}
use Rattle.vid_geom.proofs.ListLemmas.{Contains-map, Contains-filter, Contains-flat_map, Contains-range, All-flat_map, length-flat_map_same, flat_map_split, joined-append}
use Rattle.std.proofs.lemmas.List.FromFn.{length-range_with_len, length-map-range_with_len, take-map-range_with_len, get_or-map-range_with_len}
use Rattle.std.proofs.Math.Seq.{take-append-add}
use Rattle.std.proofs.lemmas.List.{take-append-le, get_or-append-add, get_or_append_left}
use Rattle.vid_geom.proofs.NumberLemmas.{slice_get-ranges_from}
use Rattle.vid_geom.proofs.SquareLemmas.{on_path, side_positive, covers, first_of, first_of_start, wide, high, rows_counted, columns_counted, square_counted}

-- each cell of the grid is in the square where it lies
square_contains : (g : Grid) (c : Cell) → inside g c ≡ true → Contains (square g (c.col / side_of g.walk) (c.row / side_of g.walk)) c
unfolding square moved
square_contains g c h =
    let side : ℕ = side_of g.walk in
    let col : side * (c.col / side) + c.col % side ≡ c.col = div-add-mod c.col side in
    let row : side * (c.row / side) + c.row % side ≡ c.row = div-add-mod c.row side in
    let there = Contains-map (moved (side * (c.col / side)) (side * (c.row / side))) (path_of g.walk) (cell (c.col % side) (c.row % side)) (on_path g.walk (c.col % side) (c.row % side) (mod_below c.col side (side_positive g.walk)) (mod_below c.row side (side_positive g.walk))) in
    Contains-filter (inside g) (map (moved (side * (c.col / side)) (side * (c.row / side))) (path_of g.walk)) c h (rw (col, row) at there)

-- a cell of the grid lies in one of its squares
square_below : (side n x : ℕ) → 0 < side → n ≤ side * div_ceil n side → x < n → x / side < div_ceil n side
square_below side n x p c h = div_below x side (div_ceil n side) p (let e = mul_comm side (div_ceil n side) in omega arith)

-- each cell of the grid is walked through
pub cells_contain : (g : Grid) (c : Cell) → c.col < g.width → c.row < g.height → Contains (cells g) c
unfolding cells squares square_row joined
cells_contain g c a b =
    let side : ℕ = side_of g.walk in
    let across : c.col / side < squares_across g = square_below side g.width c.col (side_positive g.walk) (covers g.walk g.width).0 a in
    let up : c.row / side < squares_up g = square_below side g.height c.row (side_positive g.walk) (covers g.walk g.height).0 b in
    let in_row = Contains-map (λ col. square g col (c.row / side)) (range_with_len 0 (squares_across g)) (c.col / side) (Contains-range (squares_across g) (c.col / side) across) in
    let in_grid = Contains-flat_map (square_row g) (range_with_len 0 (squares_up g)) (c.row / side) (square g (c.col / side) (c.row / side)) (Contains-range (squares_up g) (c.row / side) up) in_row in
    Contains-flat_map (λ list. list) (squares g) (square g (c.col / side) (c.row / side)) c in_grid (square_contains g c (grind (arith, nat_tests)))

-- only cells of the grid are walked through
pub cells_inside : (g : Grid) → All (λ c. inside g c ≡ true) (cells g)
unfolding cells squares square_row square joined
cells_inside g =
    All-flat_map (λ c. inside g c ≡ true) (λ list. list) (squares g)
    (All-flat_map (All (λ c. inside g c ≡ true)) (square_row g) (range_with_len 0 (squares_up g))
    (λ k d h. All-map (All (λ c. inside g c ≡ true)) (λ col. square g col (get_or (range_with_len 0 (squares_up g)) k d)) (range_with_len 0 (squares_across g)) (λ j e i.
    filter_passes (inside g) (map (moved (side_of g.walk * get_or (range_with_len 0 (squares_across g)) j e) (side_of g.walk * get_or (range_with_len 0 (squares_up g)) k d)) (path_of g.walk)))))

-- the squares before one are the whole rows below it and those to the left of it
abbrev pub square_place : Grid → ℕ → ℕ → ℕ
square_place g col row = row * squares_across g + col

pub record IsSquareAt (g : Grid) (col row : ℕ) : Type 0 where
  pub before : take (square_place g col row) (squares g) ≡ flat_map (square_row g) (range_with_len 0 row) ++ map (λ col. square g col row) (range_with_len 0 col)
  pub here : get_or (squares g) (square_place g col row) [] ≡ square g col row
  pub below : square_place g col row < length (squares g)

pub length-square_row : (g : Grid) (row : ℕ) → length (square_row g row) ≡ squares_across g
unfolding square_row
length-square_row g row = length-map-range_with_len (λ col. square g col row) 0 (squares_across g)

pub length-squares : (g : Grid) → length (squares g) ≡ squares_up g * squares_across g
unfolding squares
length-squares g = length-flat_map_same (square_row g) (squares_across g) (range_with_len 0 (squares_up g)) (length-square_row g) ∙ ap (λ n. n * squares_across g) (length-range_with_len 0 (squares_up g))

first_squares : (g : Grid) (row n : ℕ) → n ≤ squares_across g → take n (square_row g row) ≡ map (λ col. square g col row) (range_with_len 0 n)
unfolding square_row
first_squares g row n h = take-map-range_with_len (λ col. square g col row) 0 (squares_across g) n h

one_square : (g : Grid) (row col : ℕ) → col < squares_across g → get_or (square_row g row) col [] ≡ square g col row
unfolding square_row
one_square g row col h = get_or-map-range_with_len (λ col. square g col row) 0 (squares_across g) col col [] h (omega arith)

square_at : (g : Grid) (col row : ℕ) → col < squares_across g → row < squares_up g → IsSquareAt g col row
unfolding squares
square_at g col row a b =
    let below : List (List Cell) = flat_map (square_row g) (range_with_len 0 row) in
    let split = flat_map_split (square_row g) (squares_up g) row b in
    let long : length below ≡ row * squares_across g = length-flat_map_same (square_row g) (squares_across g) (range_with_len 0 row) (length-square_row g) ∙ ap (λ n. n * squares_across g) (length-range_with_len 0 row) in
    let own : col < length (square_row g row) = omega (arith, length-square_row g row) in
    record {
      before =
          ap (λ n. take (n + col) (squares g)) (sym long) ∙ ap (take (length below + col)) split.1 ∙ take-append-add below (square_row g row ++ split.0) col
          ∙ ap (λ l. below ++ l) (take-append-le col (square_row g row) split.0 (omega arith) ∙ first_squares g row col (omega arith));
      here =
          ap (λ n. get_or (squares g) (n + col) []) (sym long) ∙ ap (λ l. get_or l (length below + col) []) split.1 ∙ get_or-append-add below (square_row g row ++ split.0) col []
          ∙ get_or_append_left (square_row g row) split.0 [] col own ∙ one_square g row col a;
      below = let e = length-squares g in let h : row * squares_across g + squares_across g ≤ squares_up g * squares_across g = row_fits row (squares_across g) (squares_up g) (squares_across g) b (omega arith) in omega arith;
    }

-- how many cells stand before a square
before_square : (g : Grid) (col row : ℕ) → IsSquareAt g col row → length (joined (take (square_place g col row) (squares g))) ≡ first_of g col row
before_square g col row at =
    let rows = rows_counted g row in
    let columns = columns_counted g row col in
    rw (at.before, joined-append) (omega (arith, length-append (joined (flat_map (square_row g) (range_with_len 0 row))) (joined (map (λ col. square g col row) (range_with_len 0 col))), rows.long, columns.long, first_of_start g))

-- the places of a square's cells
pub square_range : (g : Grid) (from col row : ℕ) → col < squares_across g → row < squares_up g
    → slice_get (ranges_from from (squares g)) (square_place g col row) ≡ Some (from + first_of g col row, from + first_of g col row + wide g col * high g row)
square_range g from col row a b =
    let at = square_at g col row a b in
    let size : length (square g col row) ≡ wide g col * high g row = omega (arith, (square_counted g col row).long) in
    slice_get-ranges_from from (squares g) (square_place g col row) at.below
    ∙ rw (before_square g col row at, at.here, size) refl

-- the corner of a square lies in the grid, and its cells end within the grid's
pub record IsInGrid (g : Grid) (col row : ℕ) : Type 0 where
  pub right : side_of g.walk * col < g.width
  pub up : side_of g.walk * row < g.height
  pub past : side_of g.walk * row * g.width + side_of g.walk * col * high g row + wide g col * high g row ≤ g.width * g.height
  pub some : 0 < wide g col * high g row

-- the start of a square in the last row or column is before the edge
corner_below : (side n k : ℕ) → side * div_ceil n side < n + side → k < div_ceil n side → side * k < n
corner_below side n k c h = let m : side * k + side ≤ side * div_ceil n side = column_fits side k side (div_ceil n side) h (omega arith) in omega arith

pub in_grid : (g : Grid) (col row : ℕ) → col < squares_across g → row < squares_up g → IsInGrid g col row
in_grid g col row a b =
    let right : side_of g.walk * col < g.width = corner_below (side_of g.walk) g.width col (covers g.walk g.width).1 a in
    let up : side_of g.walk * row < g.height = corner_below (side_of g.walk) g.height row (covers g.walk g.height).1 b in
    record {
      right = right;
      up = up;
      past =
          (let across : (side_of g.walk * col + wide g col) * high g row ≤ g.width * high g row = mul-le (side_of g.walk * col + wide g col) (high g row) g.width (high g row) (omega arith) (omega arith) in
          let upwards : (side_of g.walk * row + high g row) * g.width ≤ g.height * g.width = mul-le (side_of g.walk * row + high g row) g.width g.height g.width (omega arith) (omega arith) in
          grind arith);
      some = (let p = side_positive g.walk in omega (arith, mul-le 1 1 (wide g col) (high g row) (omega arith) (omega arith)));
    }

positive_factor : (s up across : ℕ) → s < up * across → 0 < across
positive_factor s up zero h = absurd (omega arith)
positive_factor s up (suc n) h = omega arith

-- a square's column and row from its place among the squares
pub record IsNumbered (g : Grid) (s : ℕ) : Type 0 where
  pub some : 0 < squares_across g
  pub col : s % squares_across g < squares_across g
  pub row : s / squares_across g < squares_up g
  pub is : s ≡ square_place g (s % squares_across g) (s / squares_across g)

pub square_number : (g : Grid) (s : ℕ) → s < length (squares g) → IsNumbered g s
square_number g s h =
    let below : s < squares_up g * squares_across g = omega (arith, length-squares g) in
    let some : 0 < squares_across g = positive_factor s (squares_up g) (squares_across g) below in
    record {
      some = some;
      col = mod_below s (squares_across g) some;
      row = div_below s (squares_across g) (squares_up g) some below;
      is = sym (div-add-mod' s (squares_across g));
    }

pub in_grid_at : (g : Grid) (s : ℕ) → s < length (squares g) → IsInGrid g (s % squares_across g) (s / squares_across g)
in_grid_at g s h = let n = square_number g s h in in_grid g (s % squares_across g) (s / squares_across g) n.col n.row

-- the places of a square's cells, from the square's place
pub range_at : (g : Grid) (from s : ℕ) → s < length (squares g)
    → (let first = from + side_of g.walk * (s / squares_across g) * g.width + side_of g.walk * (s % squares_across g) * high g (s / squares_across g) in
    slice_get (ranges_from from (squares g)) s ≡ Some (first, first + wide g (s % squares_across g) * high g (s / squares_across g)))
unfolding first_of
range_at g from s h =
    let n = square_number g s h in
    let i = in_grid_at g s h in
    let col : ℕ = s % squares_across g in
    let row : ℕ = s / squares_across g in
    let right : min (side_of g.walk * col) g.width ≡ side_of g.walk * col = omega (arith, i.right) in
    let up : min (side_of g.walk * row) g.height ≡ side_of g.walk * row = omega (arith, i.up) in
    let at = square_range g from col row n.col n.row in
    let first : from + first_of g col row ≡ from + side_of g.walk * row * g.width + side_of g.walk * col * high g row = rw (right, up) (omega arith) in
    ap (slice_get (ranges_from from (squares g))) n.is ∙ at ∙ ap (λ f. Some (f, f + wide g col * high g row)) first
