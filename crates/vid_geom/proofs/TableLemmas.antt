-- The steps by which the tables are filled: one cell, one square, one row of squares more, and one place more. The
-- functions that build the tables cite these.
use Rattle.std.proofs.Common.{◌≡◌, ◌∙◌, ℕ, ◌+◌, ◌*◌, ◌<◌, ◌≤◌, true, List, [], ◌∷◌, ◌++◌, length, get_or, set, take, map, filter, Some, slice_get, refl, ap, arith, append-nil, get_or-set_same, get_or-set_other, below_more}
use Rattle.std.specs.List.{flat_map, range_with_len}
use Rattle.std.proofs.lemmas.Bool.Decides.{nat_tests}
use Rattle.std.proofs.lemmas.Grind.{flat_map-append}
use Rattle.std.proofs.lemmas.List.{map_more, take_all}
use Rattle.std.proofs.lemmas.List.Elements.{All-get_or, filter-append}
use Rattle.std.proofs.lemmas.List.FromFn.{map-range_with_len_more}
use Rattle.std.proofs.lemmas.Nat.{mul-add-lt, same_from_place}
use Rattle.std.proofs.lemmas.Simd.{map-map}
use Rattle.std.proofs.lemmas.Option.{slice_get-get_or, slice_get_within, get_or_from_slice_get}
use Rattle.vid_geom.specs.Squares.{Cell, Grid, cell, side_of, path_of, moved, inside, only_inside, square, joined, cells}
use Rattle.vid_geom.specs.Tables.{raster_place, AreTables, HasPlaces}
use Rattle.vid_geom.proofs.ListLemmas.{joined-append, range-append, slice_get-Contains}
use Rattle.vid_geom.proofs.NumberLemmas.{number_at}
use Rattle.vid_geom.proofs.SquareLemmas.{number_in, cells_counted}
use Rattle.vid_geom.proofs.CellLemmas.{cells_inside, cells_contain}

-- one cell of a square more
pub square_more : {X : Type 0} (g : Grid) (right up : ℕ) (f : X → Cell) (path : List X) (i : ℕ) (d : X) → i < length path
    → filter (inside g) (map (λ x. moved right up (f x)) (take (i + 1) path)) ≡ filter (inside g) (map (λ x. moved right up (f x)) (take i path)) ++ only_inside g (moved right up (f (get_or path i d)))
square_more g right up f path i d h =
    ap (filter (inside g)) (map_more (λ x. moved right up (f x)) path i d h) ∙ filter-append (inside g) (map (λ x. moved right up (f x)) (take i path)) (moved right up (f (get_or path i d)) ∷ [])

-- all cells of a square
pub square_all : {X : Type 0} (g : Grid) (col row right up : ℕ) (f : X → Cell) (path : List X) (i : ℕ) → length path ≤ i → map f path ≡ path_of g.walk → right ≡ side_of g.walk * col → up ≡ side_of g.walk * row
    → filter (inside g) (map (λ x. moved right up (f x)) (take i path)) ≡ square g col row
unfolding square
square_all g col row right up f path i h p r u = rw (take_all i path h, ← map-map (moved right up) f path, p, r, u) refl

-- one square of a row more
pub joined_more : {X : Type 0} (f : ℕ → List X) (n : ℕ) → joined (map f (range_with_len 0 (n + 1))) ≡ joined (map f (range_with_len 0 n)) ++ f n
unfolding joined
joined_more f n = ap joined (map-range_with_len_more f 0 n n (omega arith)) ∙ joined-append (map f (range_with_len 0 n)) (f n ∷ []) ∙ ap (λ l. joined (map f (range_with_len 0 n)) ++ l) (append-nil (f n))

-- one row of squares more
pub rows_more : {X : Type 0} (f : ℕ → List (List X)) (n : ℕ) → joined (flat_map f (range_with_len 0 (n + 1))) ≡ joined (flat_map f (range_with_len 0 n)) ++ joined (f n)
rows_more f n =
    let z : 0 + n ≡ n = omega arith in
    let more : range_with_len 0 (n + 1) ≡ range_with_len 0 n ++ n ∷ [] = range-append 0 n 1 ∙ ap (λ k. range_with_len 0 n ++ k ∷ []) z in
    ap joined (ap (flat_map f) more ∙ flat_map-append f (range_with_len 0 n) (n ∷ []) ∙ ap (λ l. flat_map f (range_with_len 0 n) ++ l) (append-nil (f n))) ∙ joined-append (flat_map f (range_with_len 0 n)) (f n)

-- a cell that is walked through lies in the grid
pub cell_inside : (g : Grid) (k : ℕ) → k < length (cells g) → ((get_or (cells g) k (cell 0 0)).col < g.width) × ((get_or (cells g) k (cell 0 0)).row < g.height)
cell_inside g k h =
    let c : Cell = get_or (cells g) k (cell 0 0) in
    let t : inside g c ≡ true = All-get_or (λ c. inside g c ≡ true) (cells g) k (cell 0 0) h (cells_inside g) in
    (grind (arith, nat_tests), grind (arith, nat_tests))

pub raster_below : (g : Grid) (k : ℕ) → k < length (cells g) → raster_place g (get_or (cells g) k (cell 0 0)) < g.width * g.height
raster_below g k h = let i = cell_inside g k h in mul-add-lt (get_or (cells g) k (cell 0 0)).row g.width (get_or (cells g) k (cell 0 0)).col g.height i.1 i.0

-- two cells that are walked through have entries of their own
raster_apart : (g : Grid) (k j : ℕ) → k < length (cells g) → j < length (cells g) → raster_place g (get_or (cells g) k (cell 0 0)) ≡ raster_place g (get_or (cells g) j (cell 0 0)) → k ≡ j
raster_apart g k j hk hj e =
    let a : Cell = get_or (cells g) k (cell 0 0) in
    let b : Cell = get_or (cells g) j (cell 0 0) in
    let same = same_from_place a.row a.col b.row b.col g.width (cell_inside g k hk).0 (cell_inside g j hj).0 e in
    let one : number_in g a ≡ number_in g b = ap (λ n. number_in g (cell n a.row)) same.1 ∙ ap (λ n. number_in g (cell b.col n)) same.0 in
    let first = number_at (number_in g) 0 (g.width * g.height) (cells g) (cells_counted g) k a (slice_get-get_or (cells g) k (cell 0 0) hk) in
    let second = number_at (number_in g) 0 (g.width * g.height) (cells g) (cells_counted g) j b (slice_get-get_or (cells g) j (cell 0 0) hj) in
    omega (arith, one, first, second)

-- one place more
pub places_more : (g : Grid) (places : List ℕ) (i : ℕ) → i < length (cells g) → length places ≡ g.width * g.height
    → ((k : ℕ) → k < i → get_or places (raster_place g (get_or (cells g) k (cell 0 0))) 0 ≡ k)
    → (k : ℕ) → k < i + 1 → get_or (set places (raster_place g (get_or (cells g) i (cell 0 0))) i) (raster_place g (get_or (cells g) k (cell 0 0))) 0 ≡ k
places_more g places i h long before =
    below_more (λ k. get_or (set places (raster_place g (get_or (cells g) i (cell 0 0))) i) (raster_place g (get_or (cells g) k (cell 0 0))) 0 ≡ k) i
    (λ k l. get_or-set_other places (raster_place g (get_or (cells g) i (cell 0 0))) (raster_place g (get_or (cells g) k (cell 0 0))) i 0 (λ e. (let s : k ≡ i = raster_apart g k i (omega arith) h e in absurd (omega arith))) ∙ before k l)
    (get_or-set_same places (raster_place g (get_or (cells g) i (cell 0 0))) i 0 (let b = raster_below g i h in omega arith))

-- the table tells the place of each cell of the grid
pub place_found : (g : Grid) (order : List Cell) (places : List ℕ) → AreTables g order places → (c : Cell) → c.col < g.width → c.row < g.height
    → slice_get (cells g) (get_or places (raster_place g c) 0) ≡ Some c
place_found g order places tables c col row =
    let found = slice_get-Contains (cells g) c (cells_contain g c col row) in
    let within : found.0 < length (cells g) = slice_get_within (cells g) found.0 c found.1 in
    let here : get_or (cells g) found.0 (cell 0 0) ≡ c = get_or_from_slice_get (cells g) found.0 c (cell 0 0) found.1 in
    let placed : HasPlaces g (cells g) places = rw tables.ordered at tables.placed in
    let is : get_or places (raster_place g c) 0 ≡ found.0 = rw here at (placed found.0 within) in
    rw is found.1
