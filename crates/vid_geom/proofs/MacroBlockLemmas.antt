-- The blocks of all macro blocks are each block of the frame once. Geom and the layers above cite these.
use Rattle.std.proofs.Common.{◌≡◌, ◌∙◌, ℕ, zero, suc, ◌+◌, ◌-◌, ◌*◌, ◌/◌, ◌%◌, ◌<◌, ◌≤◌, true, ◌==◌, if◌then◌else◌, List, [], ◌∷◌, ◌++◌, length, get_or, map, take, replicate, Some, slice_get, refl, sym, subst, arith}
use Rattle.std.specs.List.{flat_map, range_with_len, All, Contains}
use Rattle.std.proofs.Math.Nat.{mul_comm, div-add-mod}
use Rattle.std.proofs.lemmas.Nat.{div-mul-add, mod-mul-add, div_below, mod_below, column_fits}
use Rattle.std.proofs.lemmas.Bool.Decides.{nat_tests}
use Rattle.std.proofs.lemmas.List.{length-map, append-nil, take_at}
use Rattle.std.proofs.lemmas.Option.{slice_get-map}
use Rattle.std.specs.Prelude.{IsSomeAnd}
use Rattle.std.proofs.lemmas.List.Elements.{All-append, All-same, All-replicate, All-map, All-weaker, Contains-append_left, Contains-append_right}
use Rattle.std.proofs.lemmas.List.FromFn.{get_or-range_with_len, length-range_with_len, length-map-range_with_len}
use Rattle.std.proofs.lemmas.Simd.{map-map}
use Rattle.std.proofs.lemmas.List.Folds.{flat_map-map}
use Rattle.vid_base.specs.declared.shape.Shape.{Shape}
use Rattle.vid_geom.specs.declared.block.Block.{Block}
use Rattle.vid_geom.specs.Squares.{Cell, cell, inside, moved, cells}
use Rattle.vid_geom.specs.CodedOrder.{block_columns, block_rows, block_of, plane_blocks, IsBlock, IsPlaceIn, order_of, place_of, NamesEachOnce}
use Rattle.vid_geom.specs.MacroBlocks.{macro_grid, columns_in, rows_in, raster, blocks_in, area_at, macro_blocks, area_blocks, macro_order, filled, IsMacroBlock}
use Rattle.vid_geom.proofs.ListLemmas.{Contains-map, Contains-flat_map, Contains-range, All-flat_map, All-at, map-range_with_len-add}
use Rattle.vid_geom.proofs.NumberLemmas.{Numbered, Numbered-append, Numbered-map, Numbered-flat_map, Numbered-flat_map-by, once_from_numbers}
use Rattle.vid_geom.proofs.SquareLemmas.{number_in, cells_counted}
use Rattle.vid_geom.proofs.CellLemmas.{cells_contain, cells_inside}
use Rattle.vid_geom.proofs.SizeLemmas.{block_columns_is, block_rows_is, columns_positive, rows_positive}
use Rattle.vid_geom.proofs.OrderLemmas.{place_in_plane, place_below, length-order_of}

-- cells of a rectangle in raster order are counted row by row
unfoldable pub raster_number : ℕ → Cell → ℕ
raster_number columns c = c.row * columns + c.col

raster_row : (columns row n a : ℕ) → Numbered (raster_number columns) (row * columns + a) (row * columns + a + n) (map (λ col. cell col row) (range_with_len a n))
unfolding raster_number
raster_row columns row n a = record {
  numbers = (let e : length (map (λ col. cell col row) (range_with_len a n)) ≡ n = length-map-range_with_len (λ col. cell col row) a n in rw e (map-map (raster_number columns) (λ col. cell col row) (range_with_len a n) ∙ map-range_with_len-add (row * columns) a n));
  long = omega (arith, length-map-range_with_len (λ col. cell col row) a n);
}

raster_counted : (columns rows : ℕ) → Numbered (raster_number columns) 0 (rows * columns) (raster columns rows)
unfolding raster
raster_counted columns rows =
    let step : (k : ℕ) → k < 0 + rows → Numbered (raster_number columns) (k * columns) ((k + 1) * columns) (map (λ col. cell col k) (range_with_len 0 columns)) =
    (λ k h. (let start : k * columns + 0 ≡ k * columns = omega arith in let end : k * columns + columns ≡ (k + 1) * columns = grind arith in rw (start, end) at (raster_row columns k columns 0))) in
    let all = Numbered-flat_map (raster_number columns) (λ row. map (λ col. cell col row) (range_with_len 0 columns)) (λ row. row * columns) 0 rows step in
    let none : 0 * columns ≡ 0 = omega arith in
    let end : 0 + rows ≡ rows = omega arith in
    rw (none, end) at all

-- the cells of a rectangle lie in it
raster_small : (columns rows : ℕ) → All (λ c. (c.col < columns) × (c.row < rows)) (raster columns rows)
unfolding raster
raster_small columns rows = All-flat_map (λ c. (c.col < columns) × (c.row < rows)) (λ row. map (λ col. cell col row) (range_with_len 0 columns)) (range_with_len 0 rows)
    (λ k d h. All-map (λ c. (c.col < columns) × (c.row < rows)) (λ col. cell col (get_or (range_with_len 0 rows) k d)) (range_with_len 0 columns) (λ j e i. (below columns j e i, below rows k d h)))
  where
    below : (n k d : ℕ) → k < length (range_with_len 0 n) → get_or (range_with_len 0 n) k d < n
    below n k d h = let l : k < n = omega (arith, length-range_with_len 0 n) in omega (arith, get_or-range_with_len 0 n k d l)

raster_contains : (columns rows col row : ℕ) → col < columns → row < rows → Contains (raster columns rows) (cell col row)
unfolding raster
raster_contains columns rows col row a b = Contains-flat_map (λ row. map (λ col. cell col row) (range_with_len 0 columns)) (range_with_len 0 rows) row (cell col row) (Contains-range rows row b)
    (Contains-map (λ col. cell col row) (range_with_len 0 columns) col (Contains-range columns col a))

-- how many blocks a macro block has in a plane, in the planes before it, and in all
abbrev pub size_in : ℕ → ℕ → ℕ
size_in pf pli = rows_in pf pli * columns_in pf pli

abbrev pub size_before : ℕ → ℕ → ℕ
size_before pf pli = if pli == 0 then 0 else if pli == 1 then size_in pf 0 else size_in pf 0 + size_in pf 1

abbrev pub size_of : ℕ → ℕ
size_of pf = size_in pf 0 + size_in pf 1 + size_in pf 2

-- the macro block that a block belongs to
abbrev pub owner_of : ℕ → Block → Cell
owner_of pf b = cell (b.col / columns_in pf b.pli) (b.row / rows_in pf b.pli)

-- a block's number where the macro blocks stand behind one another
unfoldable pub macro_number : Shape → Block → ℕ
macro_number s b =
    number_in (macro_grid s) (owner_of s.pf b) * size_of s.pf + size_before s.pf b.pli + raster_number (columns_in s.pf b.pli) (cell (b.col % columns_in s.pf b.pli) (b.row % rows_in s.pf b.pli))

macro_number_is : (s : Shape) (pli : ℕ) (c b : Cell) → (b.col < columns_in s.pf pli) × (b.row < rows_in s.pf pli)
    → macro_number s (block_of pli (moved (columns_in s.pf pli * c.col) (rows_in s.pf pli * c.row) b)) ≡ number_in (macro_grid s) c * size_of s.pf + size_before s.pf pli + raster_number (columns_in s.pf pli) b
unfolding macro_number block_of moved
macro_number_is s pli c b small = go (columns_in s.pf pli) (rows_in s.pf pli) small
  where
    go : (columns rows : ℕ) → (b.col < columns) × (b.row < rows)
        → number_in (macro_grid s) (cell ((columns * c.col + b.col) / columns) ((rows * c.row + b.row) / rows)) * size_of s.pf + size_before s.pf pli + raster_number columns (cell ((columns * c.col + b.col) % columns) ((rows * c.row + b.row) % rows))
        ≡ number_in (macro_grid s) c * size_of s.pf + size_before s.pf pli + raster_number columns b
    go columns rows small =
        rw (mul_comm columns c.col, mul_comm rows c.row, div-mul-add c.col columns b.col small.0, div-mul-add c.row rows b.row small.1, mod-mul-add c.col columns b.col small.0, mod-mul-add c.row rows b.row small.1) refl

blocks_in_counted : (s : Shape) (pli : ℕ) (c : Cell)
    → Numbered (macro_number s) (number_in (macro_grid s) c * size_of s.pf + size_before s.pf pli + 0) (number_in (macro_grid s) c * size_of s.pf + size_before s.pf pli + size_in s.pf pli) (blocks_in s.pf pli c)
unfolding blocks_in
blocks_in_counted s pli c =
    Numbered-map (macro_number s) (λ b. block_of pli (moved (columns_in s.pf pli * c.col) (rows_in s.pf pli * c.row) b)) (raster_number (columns_in s.pf pli)) (number_in (macro_grid s) c * size_of s.pf + size_before s.pf pli) 0 (size_in s.pf pli)
    (raster (columns_in s.pf pli) (rows_in s.pf pli))
    (All-weaker (λ b. (b.col < columns_in s.pf pli) × (b.row < rows_in s.pf pli)) (λ b. macro_number s (block_of pli (moved (columns_in s.pf pli * c.col) (rows_in s.pf pli * c.row) b)) ≡ number_in (macro_grid s) c * size_of s.pf + size_before s.pf pli + raster_number (columns_in s.pf pli) b)
    (macro_number_is s pli c) (raster (columns_in s.pf pli) (rows_in s.pf pli)) (raster_small (columns_in s.pf pli) (rows_in s.pf pli)))
    (raster_counted (columns_in s.pf pli) (rows_in s.pf pli))

pub area_counted : (s : Shape) (c : Cell) → Numbered (macro_number s) (number_in (macro_grid s) c * size_of s.pf) (number_in (macro_grid s) c * size_of s.pf + size_of s.pf) (area_blocks (area_at s.pf c))
unfolding area_at
area_counted s c = go (number_in (macro_grid s) c * size_of s.pf) (size_in s.pf 0) (size_in s.pf 1) (size_in s.pf 2) (blocks_in_counted s 0 c) (blocks_in_counted s 1 c) (blocks_in_counted s 2 c)
  where
    go : (n x y z : ℕ) → Numbered (macro_number s) (n + 0 + 0) (n + 0 + x) (blocks_in s.pf 0 c) → Numbered (macro_number s) (n + x + 0) (n + x + y) (blocks_in s.pf 1 c) → Numbered (macro_number s) (n + (x + y) + 0) (n + (x + y) + z) (blocks_in s.pf 2 c)
        → Numbered (macro_number s) n (n + (x + y + z)) (blocks_in s.pf 0 c ++ blocks_in s.pf 1 c ++ blocks_in s.pf 2 c)
    go n x y z a b d =
        let e : n + 0 + 0 ≡ n = omega arith in
        let f : n + 0 + x ≡ n + x + 0 = omega arith in
        let g : n + x + y ≡ n + (x + y) + 0 = omega arith in
        let h : n + (x + y) + z ≡ n + (x + y + z) = omega arith in
        Numbered-append (macro_number s) n (n + (x + y) + 0) (n + (x + y + z)) (blocks_in s.pf 0 c ++ blocks_in s.pf 1 c) (blocks_in s.pf 2 c)
        (Numbered-append (macro_number s) n (n + x + 0) (n + (x + y) + 0) (blocks_in s.pf 0 c) (blocks_in s.pf 1 c) (rw (e, f) at a) (rw g at b)) (rw h at d)

-- the blocks of all macro blocks are counted from 0
macro_order_counted : (s : Shape) → Numbered (macro_number s) 0 (s.fmbw * s.fmbh * size_of s.pf) (macro_order s)
unfolding macro_order macro_blocks
macro_order_counted s =
    let all : Numbered (macro_number s) (0 * size_of s.pf) (s.fmbw * s.fmbh * size_of s.pf) (flat_map (λ c. area_blocks (area_at s.pf c)) (cells (macro_grid s))) =
    Numbered-flat_map-by (macro_number s) (number_in (macro_grid s)) (λ c. area_blocks (area_at s.pf c)) (size_of s.pf) 0 (s.fmbw * s.fmbh) (cells (macro_grid s)) (area_counted s) (cells_counted (macro_grid s)) in
    let none : 0 * size_of s.pf ≡ 0 = omega arith in
    rw (flat_map-map area_blocks (area_at s.pf) (cells (macro_grid s))) (rw none at all)

-- a number in a multiple lies in one of the parts
part_below : (size n whole x : ℕ) → 0 < size → whole ≡ size * n → x < whole → x / size < n
part_below size n whole x p e h = div_below x size n p (let m = mul_comm size n in omega arith)

-- the macro block of a block of the frame is one of the frame
pub owner_inside : (s : Shape) (b : Block) → IsBlock s b → ((owner_of s.pf b).col < s.fmbw) × ((owner_of s.pf b).row < s.fmbh)
owner_inside s b is = (
  part_below (columns_in s.pf b.pli) s.fmbw (block_columns s b.pli) b.col (columns_positive s.pf b.pli) (block_columns_is s b.pli) is.1,
  part_below (rows_in s.pf b.pli) s.fmbh (block_rows s b.pli) b.row (rows_positive s.pf b.pli) (block_rows_is s b.pli) is.2,
)

-- and has it among its blocks
owner_blocks : (pf : ℕ) (b : Block) → Contains (blocks_in pf b.pli (owner_of pf b)) b
unfolding blocks_in moved block_of
owner_blocks pf b =
    let columns : ℕ = columns_in pf b.pli in
    let rows : ℕ = rows_in pf b.pli in
    let col : columns * (b.col / columns) + b.col % columns ≡ b.col = div-add-mod b.col columns in
    let row : rows * (b.row / rows) + b.row % rows ≡ b.row = div-add-mod b.row rows in
    let there = Contains-map (λ c. block_of b.pli (moved (columns * (b.col / columns)) (rows * (b.row / rows)) c)) (raster columns rows) (cell (b.col % columns) (b.row % rows))
    (raster_contains columns rows (b.col % columns) (b.row % rows) (mod_below b.col columns (columns_positive pf b.pli)) (mod_below b.row rows (rows_positive pf b.pli))) in
    rw (col, row) at there

pub owner_contains : (pf : ℕ) (b : Block) → b.pli < 3 → Contains (area_blocks (area_at pf (owner_of pf b))) b
unfolding area_at
owner_contains pf b p = go b.pli p (owner_of pf b) (owner_blocks pf b)
  where
    go : (pli : ℕ) → pli < 3 → (c : Cell) → Contains (blocks_in pf pli c) b → Contains (blocks_in pf 0 c ++ blocks_in pf 1 c ++ blocks_in pf 2 c) b
    go zero p c h = Contains-append_left (blocks_in pf 0 c ++ blocks_in pf 1 c) (blocks_in pf 2 c) b (Contains-append_left (blocks_in pf 0 c) (blocks_in pf 1 c) b h)
    go (suc zero) p c h = Contains-append_left (blocks_in pf 0 c ++ blocks_in pf 1 c) (blocks_in pf 2 c) b (Contains-append_right (blocks_in pf 0 c) (blocks_in pf 1 c) b h)
    go (suc (suc zero)) p c h = Contains-append_right (blocks_in pf 0 c ++ blocks_in pf 1 c) (blocks_in pf 2 c) b h
    go (suc (suc (suc n))) p c h = absurd (omega arith)

macro_order_contains : (s : Shape) (b : Block) → IsBlock s b → Contains (macro_order s) b
unfolding macro_order macro_blocks
macro_order_contains s b is =
    let inside = owner_inside s b is in
    Contains-flat_map area_blocks (map (area_at s.pf) (cells (macro_grid s))) (area_at s.pf (owner_of s.pf b)) b
    (Contains-map (area_at s.pf) (cells (macro_grid s)) (owner_of s.pf b) (cells_contain (macro_grid s) (owner_of s.pf b) inside.0 inside.1))
    (owner_contains s.pf b is.0)

-- the blocks of a macro block are blocks of the frame
part_inside : (size n whole x y : ℕ) → whole ≡ size * n → x < n → y < size → size * x + y < whole
part_inside size n whole x y e a b = let m : size * x + size ≤ size * n = column_fits size x size n a (omega arith) in omega arith

abbrev IsBlockIn : Shape → ℕ → Block → Type 0
IsBlockIn s pli b = (b.pli ≡ pli) × IsBlock s b

blocks_in_plane : (s : Shape) (pli : ℕ) (c : Cell) → pli < 3 → c.col < s.fmbw → c.row < s.fmbh → All (IsBlockIn s pli) (blocks_in s.pf pli c)
unfolding blocks_in moved block_of
blocks_in_plane s pli c p col row =
    All-map (IsBlockIn s pli) (λ b. block_of pli (moved (columns_in s.pf pli * c.col) (rows_in s.pf pli * c.row) b)) (raster (columns_in s.pf pli) (rows_in s.pf pli))
    (All-weaker (λ b. (b.col < columns_in s.pf pli) × (b.row < rows_in s.pf pli)) (λ b. IsBlockIn s pli (block_of pli (moved (columns_in s.pf pli * c.col) (rows_in s.pf pli * c.row) b)))
    (λ b small. (refl, (p, part_inside (columns_in s.pf pli) s.fmbw (block_columns s pli) c.col b.col (block_columns_is s pli) col small.0, part_inside (rows_in s.pf pli) s.fmbh (block_rows s pli) c.row b.row (block_rows_is s pli) row small.1)))
    (raster (columns_in s.pf pli) (rows_in s.pf pli)) (raster_small (columns_in s.pf pli) (rows_in s.pf pli)))

pub blocks_in_inside : (s : Shape) (pli : ℕ) (c : Cell) → pli < 3 → c.col < s.fmbw → c.row < s.fmbh → All (IsBlock s) (blocks_in s.pf pli c)
blocks_in_inside s pli c p col row = All-weaker (IsBlockIn s pli) (IsBlock s) (λ b h. h.1) (blocks_in s.pf pli c) (blocks_in_plane s pli c p col row)

pub area_inside : (s : Shape) (c : Cell) → c.col < s.fmbw → c.row < s.fmbh → All (IsBlock s) (area_blocks (area_at s.pf c))
unfolding area_at
area_inside s c col row =
    All-append (IsBlock s) (blocks_in s.pf 0 c ++ blocks_in s.pf 1 c) (blocks_in s.pf 2 c)
    (All-append (IsBlock s) (blocks_in s.pf 0 c) (blocks_in s.pf 1 c) (blocks_in_inside s 0 c (omega arith) col row) (blocks_in_inside s 1 c (omega arith) col row))
    (blocks_in_inside s 2 c (omega arith) col row)

macro_order_inside : (s : Shape) → All (IsBlock s) (macro_order s)
unfolding macro_order macro_blocks
macro_order_inside s =
    All-flat_map (IsBlock s) area_blocks (map (area_at s.pf) (cells (macro_grid s)))
    (All-map (λ area. All (IsBlock s) (area_blocks area)) (area_at s.pf) (cells (macro_grid s))
    (All-weaker (λ c. inside (macro_grid s) c ≡ true) (λ c. All (IsBlock s) (area_blocks (area_at s.pf c))) (λ c h.
    area_inside s c (grind (arith, nat_tests)) (grind (arith, nat_tests)))
    (cells (macro_grid s)) (cells_inside (macro_grid s))))

-- the macro blocks of a frame name each of its blocks once
pub macro_order_names_each_once : (s : Shape) → NamesEachOnce s (macro_order s)
macro_order_names_each_once s = record {
  each = macro_order_contains s;
  once = once_from_numbers (macro_number s) 0 (s.fmbw * s.fmbh * size_of s.pf) (macro_order s) (macro_order_counted s);
  only = macro_order_inside s;
}

pub length-macro_blocks : (s : Shape) → length (macro_blocks s) ≡ s.fmbw * s.fmbh
unfolding macro_blocks
length-macro_blocks s = length-map (cells (macro_grid s)) (area_at s.pf) ∙ omega (arith, (cells_counted (macro_grid s)).long)

-- how many blocks a frame has, by its macro blocks
pub plane_blocks_is : (s : Shape) (pli : ℕ) → plane_blocks s pli ≡ s.fmbw * s.fmbh * size_in s.pf pli
plane_blocks_is s pli = rw (block_columns_is s pli, block_rows_is s pli) (grind arith)

-- a macro block's places in a plane
pub places_in_plane : (s : Shape) (pli : ℕ) (c : Cell) → pli < 3 → c.col < s.fmbw → c.row < s.fmbh → All (IsPlaceIn s pli) (map (place_of s) (blocks_in s.pf pli c))
places_in_plane s pli c p col row = All-map (IsPlaceIn s pli) (place_of s) (blocks_in s.pf pli c)
    (All-weaker (IsBlockIn s pli) (λ b. IsPlaceIn s pli (place_of s b)) (λ b h. (let P : ℕ → Type 0 = λ n. IsPlaceIn s n (place_of s b) in subst P h.0 (place_in_plane s b h.1))) (blocks_in s.pf pli c) (blocks_in_plane s pli c p col row))

pub length-blocks_in : (pf pli : ℕ) (c : Cell) → length (blocks_in pf pli c) ≡ rows_in pf pli * columns_in pf pli
unfolding blocks_in
length-blocks_in pf pli c = length-map (raster (columns_in pf pli) (rows_in pf pli)) (λ b. block_of pli (moved (columns_in pf pli * c.col) (rows_in pf pli * c.row) b)) ∙ omega (arith, (raster_counted (columns_in pf pli) (rows_in pf pli)).long)

-- the block of a macro block in a column and row of its blocks
abbrev pub block_in : ℕ → ℕ → Cell → ℕ → ℕ → Block
block_in pf pli c col row = block_of pli (moved (columns_in pf pli * c.col) (rows_in pf pli * c.row) (cell col row))

pub one_block : (pf pli : ℕ) (c : Cell) → columns_in pf pli ≡ 1 → rows_in pf pli ≡ 1 → blocks_in pf pli c ≡ block_in pf pli c 0 0 ∷ []
unfolding blocks_in raster
one_block pf pli c a b = rw (a, b) refl

pub two_blocks : (pf pli : ℕ) (c : Cell) → columns_in pf pli ≡ 1 → rows_in pf pli ≡ 2 → blocks_in pf pli c ≡ block_in pf pli c 0 0 ∷ block_in pf pli c 0 1 ∷ []
unfolding blocks_in raster
two_blocks pf pli c a b = rw (a, b) refl

pub four_blocks : (pf pli : ℕ) (c : Cell) → columns_in pf pli ≡ 2 → rows_in pf pli ≡ 2
    → blocks_in pf pli c ≡ block_in pf pli c 0 0 ∷ block_in pf pli c 1 0 ∷ block_in pf pli c 0 1 ∷ block_in pf pli c 1 1 ∷ []
unfolding blocks_in raster
four_blocks pf pli c a b = rw (a, b) refl

-- a plane that is halved upwards is halved across too
pub one_row : (pf pli : ℕ) → rows_in pf pli ≡ 1 → columns_in pf pli ≡ 1
one_row pf pli h = grind (arith, nat_tests)

-- how many blocks a frame has: 6, 8 or 12 a macro block
pub blocks_by_macro_blocks : (s : Shape) → length (order_of s) ≡ s.fmbw * s.fmbh * (4 + 2 * (columns_in s.pf 1 * rows_in s.pf 1))
blocks_by_macro_blocks s = length-order_of s ∙ rw (plane_blocks_is s 0, plane_blocks_is s 1) (grind arith)

pub some_blocks : (s : Shape) → 0 < length (order_of s)
some_blocks s =
    let first : Block = record { pli = 0; col = 0; row = 0 } in
    let wide = s.wide in
    let high = s.high in
    omega (arith, place_below s first (omega arith, omega arith, omega arith))

-- the numbers of a macro block in a plane are places of that plane, and the zeros behind them are places too
pub filled_in_plane : (s : Shape) (pli : ℕ) (c : Cell) → pli < 3 → c.col < s.fmbw → c.row < s.fmbh
    → All (IsPlaceIn s pli) (take (columns_in s.pf pli * rows_in s.pf pli) (filled (map (place_of s) (blocks_in s.pf pli c))))
filled_in_plane s pli c p col row =
    let places : List ℕ = map (place_of s) (blocks_in s.pf pli c) in
    let long : length places ≡ columns_in s.pf pli * rows_in s.pf pli = length-map (blocks_in s.pf pli c) (place_of s) ∙ length-blocks_in s.pf pli c ∙ mul_comm (rows_in s.pf pli) (columns_in s.pf pli) in
    rw (take_at places (replicate (4 - length places) 0) (columns_in s.pf pli * rows_in s.pf pli) long) (places_in_plane s pli c p col row)

pub filled_below : (s : Shape) (pli : ℕ) (c : Cell) → pli < 3 → c.col < s.fmbw → c.row < s.fmbh → All (λ place. place < length (order_of s)) (filled (map (place_of s) (blocks_in s.pf pli c)))
filled_below s pli c p col row =
    let places : List ℕ = map (place_of s) (blocks_in s.pf pli c) in
    All-append (λ place. place < length (order_of s)) places (replicate (4 - length places) 0)
    (All-map (λ place. place < length (order_of s)) (place_of s) (blocks_in s.pf pli c) (All-weaker (IsBlock s) (λ b. place_of s b < length (order_of s)) (place_below s) (blocks_in s.pf pli c) (blocks_in_inside s pli c p col row)))
    (All-replicate (λ place. place < length (order_of s)) (4 - length places) 0 (some_blocks s))

-- in luma all four numbers count
pub luma_filled : (s : Shape) (c : Cell) → filled (map (place_of s) (blocks_in s.pf 0 c)) ≡ map (place_of s) (blocks_in s.pf 0 c)
luma_filled s c =
    let long : length (map (place_of s) (blocks_in s.pf 0 c)) ≡ 4 = length-map (blocks_in s.pf 0 c) (place_of s) ∙ length-blocks_in s.pf 0 c in
    rw long (append-nil (map (place_of s) (blocks_in s.pf 0 c)))

pub luma_in_plane : (s : Shape) (c : Cell) → c.col < s.fmbw → c.row < s.fmbh → All (IsPlaceIn s 0) (filled (map (place_of s) (blocks_in s.pf 0 c)))
luma_in_plane s c col row = All-same (IsPlaceIn s 0) (filled (map (place_of s) (blocks_in s.pf 0 c))) (map (place_of s) (blocks_in s.pf 0 c)) (luma_filled s c) (places_in_plane s 0 c (omega arith) col row)

-- what a macro block's numbers are
pub macro_block_is : (s : Shape) (m : ℕ) (c : Cell) (luma cb cr : List ℕ) (count : ℕ) → slice_get (cells (macro_grid s)) m ≡ Some c
    → luma ≡ filled (map (place_of s) (blocks_in s.pf 0 c)) → cb ≡ filled (map (place_of s) (blocks_in s.pf 1 c)) → cr ≡ filled (map (place_of s) (blocks_in s.pf 2 c)) → count ≡ columns_in s.pf 1 * rows_in s.pf 1
    → IsSomeAnd (slice_get (macro_blocks s) m) (λ area. IsMacroBlock s area (record { luma = luma; cb = cb; cr = cr; chroma_count = count }))
unfolding macro_blocks area_at
macro_block_is s m c luma cb cr count h y u v n =
    let at : slice_get (map (area_at s.pf) (cells (macro_grid s))) m ≡ Some (area_at s.pf c) = slice_get-map (area_at s.pf) (cells (macro_grid s)) m ∙ rw h refl in
    rw at (record { luma = y ∙ luma_filled s c; cb = u; cr = v; count = n ∙ mul_comm (columns_in s.pf 1) (rows_in s.pf 1) ∙ sym (length-blocks_in s.pf 1 c) })

-- a macro block lies in the frame
pub macro_cell_inside : (s : Shape) (m : ℕ) (c : Cell) → slice_get (cells (macro_grid s)) m ≡ Some c → (c.col < s.fmbw) × (c.row < s.fmbh)
macro_cell_inside s m c h =
    let t : inside (macro_grid s) c ≡ true = All-at (λ c. inside (macro_grid s) c ≡ true) (cells (macro_grid s)) m c h (cells_inside (macro_grid s)) in
    (grind (arith, nat_tests), grind (arith, nat_tests))

pub macro_cells_below : (s : Shape) (m : ℕ) → m < length (macro_blocks s) → m < length (cells (macro_grid s))
unfolding macro_blocks
macro_cells_below s m h = omega (arith, length-map (cells (macro_grid s)) (area_at s.pf))
