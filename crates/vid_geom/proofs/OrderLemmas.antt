-- The coded order names each block of a frame once, and a block's coded place leads back to it. Geom and the layers above
-- cite these.
use Rattle.std.proofs.Common.{◌≡◌, ◌∙◌, ℕ, zero, suc, ◌+◌, ◌-◌, ◌*◌, ◌<◌, ◌≤◌, Bool, true, false, List, ◌++◌, length, get_or, map, Some, slice_get, refl, sym, ap, subst, arith, length-append}
use Rattle.std.specs.List.{All, Contains}
use Rattle.std.proofs.lemmas.Bool.Decides.{nat_tests}
use Rattle.std.proofs.lemmas.List.{length-map}
use Rattle.std.proofs.lemmas.List.Elements.{All-append, All-map, All-weaker, All-get_or}
use Rattle.std.proofs.lemmas.List.Sums.{position_or_len_is}
use Rattle.std.proofs.lemmas.Option.{slice_get-map, slice_get_within, get_or_from_slice_get, slice_get-get_or, same_Some}
use Rattle.vid_base.specs.declared.shape.Shape.{Shape}
use Rattle.vid_geom.specs.declared.block.Block.{Block}
use Rattle.vid_geom.specs.Squares.{Cell, Grid, cell, inside, squares, joined, cells}
use Rattle.vid_geom.specs.CodedOrder.{block_grid, plane_blocks, blocks_before, block_of, IsBlock, IsPlaceIn, superblocks_of, superblocks, order_of, same_block, place_of, NamesEachOnce}
use Rattle.vid_geom.proofs.ListLemmas.{joined-append, joined-map-map, slice_get-append_left, slice_get-append_right, slice_get-Contains, Contains-slice_get}
use Rattle.vid_geom.proofs.NumberLemmas.{Numbered, Numbered-append, Numbered-map, number_at}
use Rattle.vid_geom.proofs.SquareLemmas.{number_in, cells_counted}
use Rattle.vid_geom.proofs.CellLemmas.{cells_contain, cells_inside}

-- the blocks of a plane in coded order
abbrev pub order_in : Shape → ℕ → List Block
order_in s pli = map (block_of pli) (cells (block_grid s pli))

pub order_in_is : (s : Shape) (pli : ℕ) → joined (superblocks_of s pli) ≡ order_in s pli
unfolding superblocks_of cells
order_in_is s pli = joined-map-map (block_of pli) (squares (block_grid s pli))

-- the planes stand one behind the other
pub order_is : (s : Shape) → order_of s ≡ order_in s 0 ++ order_in s 1 ++ order_in s 2
unfolding order_of superblocks
order_is s = rw (joined-append, joined-append, order_in_is s 0, order_in_is s 1, order_in_is s 2) refl

-- a block's number: how many blocks stand before it
unfoldable number_of : Shape → Block → ℕ
number_of s b = blocks_before s b.pli + number_in (block_grid s b.pli) (cell b.col b.row)

order_in_counted : (s : Shape) (pli : ℕ) → Numbered (number_of s) (blocks_before s pli + 0) (blocks_before s pli + plane_blocks s pli) (order_in s pli)
unfolding number_of block_of
order_in_counted s pli = Numbered-map (number_of s) (block_of pli) (number_in (block_grid s pli)) (blocks_before s pli) 0 (plane_blocks s pli) (cells (block_grid s pli)) (λ k d h. refl) (cells_counted (block_grid s pli))

order_counted : (s : Shape) → Numbered (number_of s) 0 (plane_blocks s 0 + plane_blocks s 1 + plane_blocks s 2) (order_of s)
order_counted s =
    let a : Numbered (number_of s) 0 (plane_blocks s 0) (order_in s 0) = (let e : 0 + plane_blocks s 0 ≡ plane_blocks s 0 = omega arith in rw e at (order_in_counted s 0)) in
    let b : Numbered (number_of s) (plane_blocks s 0) (plane_blocks s 0 + plane_blocks s 1) (order_in s 1) = (let e : plane_blocks s 0 + 0 ≡ plane_blocks s 0 = omega arith in rw e at (order_in_counted s 1)) in
    let c : Numbered (number_of s) (plane_blocks s 0 + plane_blocks s 1) (plane_blocks s 0 + plane_blocks s 1 + plane_blocks s 2) (order_in s 2) = (let e : plane_blocks s 0 + plane_blocks s 1 + 0 ≡ plane_blocks s 0 + plane_blocks s 1 = omega arith in rw e at (order_in_counted s 2)) in
    rw (order_is s) (Numbered-append (number_of s) 0 (plane_blocks s 0 + plane_blocks s 1) (plane_blocks s 0 + plane_blocks s 1 + plane_blocks s 2) (order_in s 0 ++ order_in s 1) (order_in s 2)
    (Numbered-append (number_of s) 0 (plane_blocks s 0) (plane_blocks s 0 + plane_blocks s 1) (order_in s 0) (order_in s 1) a b) c)

-- how many blocks a frame has
pub length-order_of : (s : Shape) → length (order_of s) ≡ plane_blocks s 0 + plane_blocks s 1 + plane_blocks s 2
length-order_of s = omega (arith, (order_counted s).long)

pub length-cells : (g : Grid) → length (cells g) ≡ g.width * g.height
length-cells g = omega (arith, (cells_counted g).long)

pub length-order_in : (s : Shape) (pli : ℕ) → length (order_in s pli) ≡ plane_blocks s pli
length-order_in s pli = length-map (cells (block_grid s pli)) (block_of pli) ∙ length-cells (block_grid s pli)

-- the block at a place of a plane
order_in_at : (s : Shape) (pli k : ℕ) (c : Cell) → slice_get (cells (block_grid s pli)) k ≡ Some c → slice_get (order_in s pli) k ≡ Some (block_of pli c)
order_in_at s pli k c h = slice_get-map (block_of pli) (cells (block_grid s pli)) k ∙ rw h refl

in_plane : (s : Shape) (pli k : ℕ) (c : Cell) → slice_get (cells (block_grid s pli)) k ≡ Some c → k < plane_blocks s pli
in_plane s pli k c h = omega (arith, slice_get_within (cells (block_grid s pli)) k c h, length-cells (block_grid s pli))

-- the block at a place of a plane stands behind the planes before it
pub order_at : (s : Shape) (pli k : ℕ) (c : Cell) → pli < 3 → slice_get (cells (block_grid s pli)) k ≡ Some c → slice_get (order_of s) (blocks_before s pli + k) ≡ Some (block_of pli c)
order_at s zero k c p h =
    let l : k < plane_blocks s 0 = in_plane s 0 k c h in
    let e : 0 + k ≡ k = omega arith in
    rw (e, order_is s)
    (slice_get-append_left (order_in s 0 ++ order_in s 1) (order_in s 2) k (omega (arith, length-append (order_in s 0) (order_in s 1), length-order_in s 0))
    ∙ slice_get-append_left (order_in s 0) (order_in s 1) k (omega (arith, length-order_in s 0)) ∙ order_in_at s 0 k c h)
order_at s (suc zero) k c p h =
    let l : k < plane_blocks s 1 = in_plane s 1 k c h in
    rw (order_is s)
    (slice_get-append_left (order_in s 0 ++ order_in s 1) (order_in s 2) (plane_blocks s 0 + k) (omega (arith, length-append (order_in s 0) (order_in s 1), length-order_in s 0, length-order_in s 1))
    ∙ slice_get-append_right (order_in s 0) (order_in s 1) (plane_blocks s 0) k (length-order_in s 0) ∙ order_in_at s 1 k c h)
order_at s (suc (suc zero)) k c p h =
    rw (order_is s)
    (slice_get-append_right (order_in s 0 ++ order_in s 1) (order_in s 2) (plane_blocks s 0 + plane_blocks s 1) k (omega (arith, length-append (order_in s 0) (order_in s 1), length-order_in s 0, length-order_in s 1))
    ∙ order_in_at s 2 k c h)
order_at s (suc (suc (suc n))) k c p h = absurd (omega arith)

-- each block of the frame stands in the coded order
pub order_contains : (s : Shape) (b : Block) → IsBlock s b → Contains (order_of s) b
unfolding block_of
order_contains s b is =
    let c : Cell = cell b.col b.row in
    let found = slice_get-Contains (cells (block_grid s b.pli)) c (cells_contain (block_grid s b.pli) c is.1 is.2) in
    Contains-slice_get (order_of s) (blocks_before s b.pli + found.0) b (order_at s b.pli found.0 c is.0 found.1)

-- and none else
order_in_inside : (s : Shape) (pli : ℕ) → pli < 3 → All (IsBlock s) (order_in s pli)
unfolding block_of
order_in_inside s pli p = All-map (IsBlock s) (block_of pli) (cells (block_grid s pli))
    (All-weaker (λ c. inside (block_grid s pli) c ≡ true) (λ c. IsBlock s (block_of pli c)) (λ c h. (p, grind (arith, nat_tests), grind (arith, nat_tests))) (cells (block_grid s pli)) (cells_inside (block_grid s pli)))

pub order_inside : (s : Shape) → All (IsBlock s) (order_of s)
order_inside s = rw (order_is s) (All-append (IsBlock s) (order_in s 0 ++ order_in s 1) (order_in s 2) (All-append (IsBlock s) (order_in s 0) (order_in s 1) (order_in_inside s 0 (omega arith)) (order_in_inside s 1 (omega arith))) (order_in_inside s 2 (omega arith)))

same_parts : (a b : Block) → a.pli ≡ b.pli → a.col ≡ b.col → a.row ≡ b.row → a ≡ b
same_parts a b pli col row = ap (λ n. record { pli = n; col = a.col; row = a.row }) pli ∙ ap (λ n. record { pli = b.pli; col = n; row = a.row }) col ∙ ap (λ n. record { pli = b.pli; col = b.col; row = n }) row

-- blocks that the test takes for one are one
pub same_is : (a b : Block) → same_block a b ≡ true → a ≡ b
same_is a b h = same_parts a b (grind (arith, nat_tests)) (grind (arith, nat_tests)) (grind (arith, nat_tests))

pub same_self : (b : Block) → same_block b b ≡ true
same_self b = grind (arith, nat_tests)

pub not_true : (b : Bool) → (b ≡ true → ⊥) → b ≡ false
not_true true h = absurd (h refl)
not_true false h = refl

-- the place of the block that stands at a place
pub place_at : (s : Shape) (k : ℕ) (b : Block) → slice_get (order_of s) k ≡ Some b → place_of s b ≡ k
unfolding place_of
place_at s k b h =
    let counted = order_counted s in
    let l : k < length (order_of s) = slice_get_within (order_of s) k b h in
    let here : get_or (order_of s) k b ≡ b = get_or_from_slice_get (order_of s) k b b h in
    position_or_len_is (same_block b) (order_of s) k b (omega arith)
    (λ j below. not_true (same_block b (get_or (order_of s) j b)) (λ same.
    (let e : b ≡ get_or (order_of s) j b = same_is b (get_or (order_of s) j b) same in
    let there : slice_get (order_of s) j ≡ Some b = slice_get-get_or (order_of s) j b (omega arith) ∙ ap Some (sym e) in
    omega (arith, number_at (number_of s) 0 (plane_blocks s 0 + plane_blocks s 1 + plane_blocks s 2) (order_of s) counted k b h, number_at (number_of s) 0 (plane_blocks s 0 + plane_blocks s 1 + plane_blocks s 2) (order_of s) counted j b there))))
    (λ _. rw here (same_self b))

-- the block that stands at the place of a block
pub at_place : (s : Shape) (b : Block) → IsBlock s b → slice_get (order_of s) (place_of s b) ≡ Some b
at_place s b is =
    let found = slice_get-Contains (order_of s) b (order_contains s b is) in
    rw (place_at s found.0 b found.1) found.1

-- the place of a block is one of its plane
pub place_in_plane : (s : Shape) (b : Block) → IsBlock s b → IsPlaceIn s b.pli (place_of s b)
unfolding block_of
place_in_plane s b is =
    let c : Cell = cell b.col b.row in
    let found = slice_get-Contains (cells (block_grid s b.pli)) c (cells_contain (block_grid s b.pli) c is.1 is.2) in
    let place : place_of s b ≡ blocks_before s b.pli + found.0 = place_at s (blocks_before s b.pli + found.0) b (order_at s b.pli found.0 c is.0 found.1) in
    let within : found.0 < plane_blocks s b.pli = in_plane s b.pli found.0 c found.1 in
    rw place (omega arith, omega arith)

pub place_below : (s : Shape) (b : Block) → IsBlock s b → place_of s b < length (order_of s)
place_below s b is = slice_get_within (order_of s) (place_of s b) b (at_place s b is)

pub order_names_each_once : (s : Shape) → NamesEachOnce s (order_of s)
order_names_each_once s = record {
  each = order_contains s;
  once = λ i j b h k. sym (place_at s i b h) ∙ place_at s j b k;
  only = order_inside s;
}

-- what stands at a place is a block of the frame
pub block_at : (s : Shape) (k : ℕ) (b : Block) → slice_get (order_of s) k ≡ Some b → IsBlock s b
block_at s k b h = let P : Block → Type 0 = IsBlock s in subst P (get_or_from_slice_get (order_of s) k b b h) (All-get_or (IsBlock s) (order_of s) k b (slice_get_within (order_of s) k b h) (order_inside s))

-- the block at a place, by its plane
pub order_at_place : (s : Shape) (pli place before : ℕ) (c : Cell) → pli < 3 → before ≡ blocks_before s pli → before ≤ place → slice_get (cells (block_grid s pli)) (place - before) ≡ Some c → slice_get (order_of s) place ≡ Some (block_of pli c)
order_at_place s pli place before c p e l h =
    let back : blocks_before s pli + (place - before) ≡ place = omega arith in
    rw back at (order_at s pli (place - before) c p h)

-- two blocks have places of their own
pub place_apart : (s : Shape) (a b : Block) → IsBlock s a → IsBlock s b → place_of s a ≡ place_of s b → a ≡ b
place_apart s a b ha hb e = same_Some a b (sym (at_place s a ha) ∙ ap (slice_get (order_of s)) e ∙ at_place s b hb)

-- the length alone, as a list for tactics
pub ruleset order_length = (length-order_of)
