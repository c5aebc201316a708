-- The places of a superblock, plane by plane, and that superblocks follow one another. Geom and the layers above cite these.
use Rattle.std.proofs.Common.{◌≡◌, ◌∙◌, ℕ, ◌+◌, ◌<◌, ◌≤◌, ◌*◌, List, [], ◌∷◌, ◌++◌, length, get_or, take, drop, map, Some, slice_get, refl, sym, ap, arith, length-append}
use Rattle.std.specs.List.{All, range_with_len}
use Rattle.std.proofs.lemmas.List.Elements.{All-append, All-map}
use Rattle.std.proofs.lemmas.List.Sums.{count_by-le-length, length-filter}
use Rattle.std.proofs.lemmas.List.{length-map, take_more, take_all, append-nil, take-append-drop}
use Rattle.std.proofs.lemmas.Option.{slice_get_within, same_Some}
use Rattle.vid_base.specs.declared.shape.Shape.{Shape}
use Rattle.vid_geom.specs.declared.block.Block.{Block}
use Rattle.vid_geom.specs.Squares.{Grid, Hilbert, inside, joined, moved, path_of, side_of, square, square_row, squares, squares_across, squares_up}
use Rattle.vid_geom.specs.CodedOrder.{block_grid, plane_blocks, block_of, superblocks_of, superblocks, order_of, ranges_from, superblock_ranges}
use Rattle.vid_geom.proofs.ListLemmas.{All-flat_map, joined-append}
use Rattle.vid_geom.proofs.NumberLemmas.{slice_get-ranges_from, length-ranges_from, ranges_from-append, ranges_from-map}
use Rattle.vid_geom.proofs.OrderLemmas.{order_in_is, length-order_in}

-- how many superblocks a plane has
abbrev pub plane_superblocks : Shape → ℕ → ℕ
plane_superblocks s pli = length (squares (block_grid s pli))

length-superblocks_of : (s : Shape) (pli : ℕ) → length (superblocks_of s pli) ≡ plane_superblocks s pli
unfolding superblocks_of
length-superblocks_of s pli = length-map (squares (block_grid s pli)) (map (block_of pli))

pub length-superblocks : (s : Shape) → length (superblocks s) ≡ plane_superblocks s 0 + plane_superblocks s 1 + plane_superblocks s 2
unfolding superblocks
length-superblocks s = omega (arith, length-append (superblocks_of s 0 ++ superblocks_of s 1) (superblocks_of s 2), length-append (superblocks_of s 0) (superblocks_of s 1), length-superblocks_of s 0, length-superblocks_of s 1, length-superblocks_of s 2)

length-joined : (s : Shape) (pli : ℕ) → length (joined (superblocks_of s pli)) ≡ plane_blocks s pli
length-joined s pli = ap length (order_in_is s pli) ∙ length-order_in s pli

-- no superblock has more than 16 blocks
square_small : (g : Grid) (col row : ℕ) → g.walk ≡ Hilbert → length (square g col row) ≤ 16
unfolding square
square_small g col row e = omega (arith, length-filter (inside g) (map (moved (side_of g.walk * col) (side_of g.walk * row)) (path_of g.walk)), count_by-le-length (inside g) (map (moved (side_of g.walk * col) (side_of g.walk * row)) (path_of g.walk)), length-map (path_of g.walk) (moved (side_of g.walk * col) (side_of g.walk * row)), ap (λ w. length (path_of w)) e)

squares_small : (g : Grid) → g.walk ≡ Hilbert → All (λ cells. length cells ≤ 16) (squares g)
unfolding squares square_row
squares_small g e = All-flat_map (λ cells. length cells ≤ 16) (square_row g) (range_with_len 0 (squares_up g))
    (λ k r h. All-map (λ cells. length cells ≤ 16) (λ col. square g col (get_or (range_with_len 0 (squares_up g)) k r)) (range_with_len 0 (squares_across g))
    (λ j c i. square_small g (get_or (range_with_len 0 (squares_across g)) j c) (get_or (range_with_len 0 (squares_up g)) k r) e))

superblocks_of_small : (s : Shape) (pli : ℕ) → All (λ blocks. length blocks ≤ 16) (superblocks_of s pli)
unfolding superblocks_of
superblocks_of_small s pli = All-map (λ blocks. length blocks ≤ 16) (map (block_of pli)) (squares (block_grid s pli))
    (λ k c h. omega (arith, length-map (get_or (squares (block_grid s pli)) k c) (block_of pli), squares_small (block_grid s pli) refl k c h))

pub superblocks_small : (s : Shape) → All (λ blocks. length blocks ≤ 16) (superblocks s)
unfolding superblocks
superblocks_small s = All-append (λ blocks. length blocks ≤ 16) (superblocks_of s 0 ++ superblocks_of s 1) (superblocks_of s 2) (All-append (λ blocks. length blocks ≤ 16) (superblocks_of s 0) (superblocks_of s 1) (superblocks_of_small s 0) (superblocks_of_small s 1)) (superblocks_of_small s 2)

ranges_in : (s : Shape) (pli from : ℕ) → ranges_from from (superblocks_of s pli) ≡ ranges_from from (squares (block_grid s pli))
unfolding superblocks_of
ranges_in s pli from = ranges_from-map (block_of pli) from (squares (block_grid s pli))

-- the places of the superblocks of each plane
abbrev ranges_in_y : Shape → List (ℕ × ℕ)
ranges_in_y s = ranges_from 0 (squares (block_grid s 0))

abbrev ranges_in_cb : Shape → List (ℕ × ℕ)
ranges_in_cb s = ranges_from (plane_blocks s 0) (squares (block_grid s 1))

abbrev ranges_in_cr : Shape → List (ℕ × ℕ)
ranges_in_cr s = ranges_from (plane_blocks s 0 + plane_blocks s 1) (squares (block_grid s 2))

-- they stand behind one another
ranges_is : (s : Shape) → superblock_ranges s ≡ ranges_in_y s ++ ranges_in_cb s ++ ranges_in_cr s
unfolding superblock_ranges superblocks
ranges_is s =
    let first : 0 + length (joined (superblocks_of s 0)) ≡ plane_blocks s 0 = omega (arith, length-joined s 0) in
    let second : 0 + length (joined (superblocks_of s 0 ++ superblocks_of s 1)) ≡ plane_blocks s 0 + plane_blocks s 1 =
    rw joined-append (omega (arith, length-append (joined (superblocks_of s 0)) (joined (superblocks_of s 1)), length-joined s 0, length-joined s 1)) in
    ranges_from-append 0 (superblocks_of s 0 ++ superblocks_of s 1) (superblocks_of s 2)
    ∙ rw (second, ranges_from-append 0 (superblocks_of s 0) (superblocks_of s 1), first, ranges_in s 0 0, ranges_in s 1 (plane_blocks s 0), ranges_in s 2 (plane_blocks s 0 + plane_blocks s 1)) refl

-- the same from the grids of the planes
pub ranges_by_grids : (s : Shape) (luma chroma : Grid) → luma ≡ block_grid s 0 → chroma ≡ block_grid s 1
    → ranges_from 0 (squares luma) ++ ranges_from (luma.width * luma.height) (squares chroma) ++ ranges_from (luma.width * luma.height + chroma.width * chroma.height) (squares chroma) ≡ superblock_ranges s
ranges_by_grids s luma chroma y c = rw (y, c) (sym (ranges_is s))

pub length-superblock_ranges : (s : Shape) → length (superblock_ranges s) ≡ length (superblocks s)
unfolding superblock_ranges
length-superblock_ranges s = length-ranges_from 0 (superblocks s)

-- a superblock's places follow those of the superblocks before it
pub record IsRange (s : Shape) (k : ℕ) (r : ℕ × ℕ) : Type 0 where
  pub first : r.0 ≡ length (joined (take k (superblocks s)))
  pub past : r.1 ≡ length (joined (take (k + 1) (superblocks s)))
  pub within : r.1 ≤ length (order_of s)

joined_one_more : (lists : List (List Block)) (k : ℕ) → k < length lists → length (joined (take (k + 1) lists)) ≡ length (joined (take k lists)) + length (get_or lists k [])
unfolding joined
joined_one_more lists k h = ap (λ l. length (joined l)) (take_more lists k [] h) ∙ ap length (joined-append (take k lists) (get_or lists k [] ∷ []) ∙ ap (λ l. joined (take k lists) ++ l) (append-nil (get_or lists k []))) ∙ length-append (joined (take k lists)) (get_or lists k [])

joined_part : (lists : List (List Block)) (k : ℕ) → length (joined (take k lists)) ≤ length (joined lists)
joined_part lists k = omega (arith, ap (λ l. length (joined l)) (sym (take-append-drop k lists)) ∙ ap length (joined-append (take k lists) (drop k lists)) ∙ length-append (joined (take k lists)) (joined (drop k lists)))

pub range_is : (s : Shape) (k : ℕ) (r : ℕ × ℕ) → slice_get (superblock_ranges s) k ≡ Some r → IsRange s k r
unfolding superblock_ranges order_of
range_is s k r h =
    let lists : List (List Block) = superblocks s in
    let l : k < length lists = omega (arith, slice_get_within (ranges_from 0 lists) k r h, length-ranges_from 0 lists) in
    let e = same_Some r (0 + length (joined (take k lists)), 0 + length (joined (take k lists)) + length (get_or lists k [])) (sym h ∙ slice_get-ranges_from 0 lists k l) in
    let past : r.1 ≡ length (joined (take (k + 1) lists)) = omega (arith, ap (λ q. q.1) e, joined_one_more lists k l) in
    record { first = omega (arith, ap (λ q. q.0) e); past = past; within = omega (arith, joined_part lists (k + 1)) }

-- the last superblock's places end where the frame's do
pub past_last : (s : Shape) → length (joined (take (length (superblocks s)) (superblocks s))) ≡ length (order_of s)
unfolding order_of
past_last s = ap (λ l. length (joined l)) (take_all (length (superblocks s)) (superblocks s) (omega arith))
