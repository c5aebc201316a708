-- The flags superblock by superblock: one superblock more of the counts and of the flags. The functions of `flags` cite these.
use Rattle.std.proofs.Common.{arith, ◌≡◌, ◌∙◌, ◌+◌, ◌<◌, ◌≤◌, ℕ, zero, suc, Bool, true, false, not, List, [], ◌∷◌, ◌++◌, length, get_or, take, drop, map, ap, refl, append_assoc, length-append, add-zero, zero-add, add-one}
use Rattle.std.proofs.lemmas.List.{append-nil, drop_more, drop-drop, length-map, take_more, take-append-drop}
use Rattle.std.proofs.lemmas.List.Elements.{filter-append}
use Rattle.std.proofs.lemmas.List.Sums.{count_by_more_yes, length-filter}
use Rattle.std.specs.List.{count_by, filter}
use Rattle.std.specs.Prelude.{replicate, if◌then◌else◌}
use Rattle.vid_base.specs.declared.shape.Shape.{Shape}
use Rattle.vid_geom.specs.declared.block.Block.{Block}
use Rattle.vid_geom.specs.Squares.{joined}
use Rattle.vid_geom.specs.CodedOrder.{superblocks}
use Rattle.vid_geom.proofs.ListLemmas.{joined-append}
use Rattle.thr_flags.specs.Flags.{partial_blocks, sizes_of, spread}

joined_more : (lists : List (List Block)) (k : ℕ) → k < length lists → length (joined (take (k + 1) lists)) ≡ length (joined (take k lists)) + length (get_or lists k [])
unfolding joined
joined_more lists k h = ap (λ l. length (joined l)) (take_more lists k [] h) ∙ ap length (joined-append (take k lists) (get_or lists k [] ∷ []) ∙ ap (λ l. joined (take k lists) ++ l) (append-nil (get_or lists k []))) ∙ length-append (joined (take k lists)) (get_or lists k [])

pub get_or-lengths : (lists : List (List Block)) (k : ℕ) → get_or (map length lists) k 0 ≡ length (get_or lists k [])
get_or-lengths [] k = refl
get_or-lengths (x ∷ xs) zero = refl
get_or-lengths (x ∷ xs) (suc k) = get_or-lengths xs k

-- the size of a superblock by its places
pub size_at : (s : Shape) (k first past : ℕ) → k < length (superblocks s) → first ≡ length (joined (take k (superblocks s))) → past ≡ length (joined (take (k + 1) (superblocks s))) → past ≡ first + get_or (sizes_of s) k 0
unfolding sizes_of
size_at s k first past h e f = omega (arith, joined_more (superblocks s) k h, get_or-lengths (superblocks s) k)

pub length-sizes_of : (s : Shape) → length (sizes_of s) ≡ length (superblocks s)
unfolding sizes_of
length-sizes_of s = length-map (superblocks s) length

-- one superblock more
pub partial_more : (sizes : List ℕ) (partly : List Bool) (k : ℕ) → k < length sizes → k < length partly
    → partial_blocks (take (k + 1) sizes) (take (k + 1) partly) ≡ partial_blocks (take k sizes) (take k partly) + (if get_or partly k false then get_or sizes k 0 else 0)
unfolding partial_blocks
partial_more [] partly k h l = absurd (omega arith)
partial_more (n ∷ sizes) [] k h l = absurd (omega arith)
partial_more (n ∷ sizes) (v ∷ partly) zero h l = rw (zero-add, add-zero) refl
partial_more (n ∷ sizes) (v ∷ partly) (suc k) h l = let e = rw add-one at (partial_more sizes partly k (omega arith) (omega arith)) in rw (add-one, e) (omega arith)

-- the first superblocks have no more such blocks than all
pub partial_part : (sizes : List ℕ) (partly : List Bool) (k : ℕ) → partial_blocks (take k sizes) (take k partly) ≤ partial_blocks sizes partly
unfolding partial_blocks
partial_part sizes partly zero = omega arith
partial_part [] partly (suc k) = omega arith
partial_part (n ∷ sizes) [] (suc k) = omega arith
partial_part (n ∷ sizes) (v ∷ partly) (suc k) = let e = partial_part sizes partly k in omega arith

-- the flags of the blocks of a partly coded superblock are there
pub single_fits : (sizes : List ℕ) (partly : List Bool) (k : ℕ) → k < length sizes → k < length partly → get_or partly k false ≡ true → partial_blocks (take k sizes) (take k partly) + get_or sizes k 0 ≤ partial_blocks sizes partly
single_fits sizes partly k h l is = omega (arith, rw is at (partial_more sizes partly k h l), partial_part sizes partly (k + 1))

-- the first of the values are no more than all
count_by-take : (p : Bool → Bool) (values : List Bool) (k : ℕ) → count_by p (take k values) ≤ count_by p values
count_by-take p values k = omega (arith, length-filter p (take k values), length-filter p values, length-append (filter p (take k values)) (filter p (drop k values)), ap length (filter-append p (take k values) (drop k values)), ap (λ l. length (filter p l)) (take-append-drop k values))

-- whether another is fully coded is there
pub whole_fits : (partly : List Bool) (k : ℕ) → k < length partly → get_or partly k false ≡ false → count_by not (take k partly) < count_by not partly
whole_fits partly k h is =
    let no : not (get_or partly k false) ≡ true = ap not is in
    omega (arith, count_by_more_yes not partly k false h no, count_by-take not partly (k + 1))

-- the flags of a partly coded superblock
pub spread_single : {all : List Bool} (sizes : List ℕ) (partly fully single front front' : List Bool) (k n b : ℕ) → k < length sizes → k < length partly → get_or partly k false ≡ true → n ≡ get_or sizes k 0
    → front' ≡ front ++ take n (drop b single) → front ++ spread (drop k sizes) (drop k partly) fully (drop b single) ≡ all
    → front' ++ spread (drop (k + 1) sizes) (drop (k + 1) partly) fully (drop (b + n) single) ≡ all
unfolding spread
spread_single sizes partly fully single front front' k n b h l is size e same =
    let step : spread (drop k sizes) (drop k partly) fully (drop b single) ≡ take n (drop b single) ++ spread (drop (k + 1) sizes) (drop (k + 1) partly) fully (drop (b + n) single) =
    rw (drop_more sizes k 0 h, drop_more partly k false l, is, size, ← drop-drop (get_or sizes k 0) b single) refl in
    rw (e, append_assoc front (take n (drop b single)) (spread (drop (k + 1) sizes) (drop (k + 1) partly) fully (drop (b + n) single)), ← step) same

-- the flags of another superblock
pub spread_whole : {all : List Bool} (sizes : List ℕ) (partly fully single front front' : List Bool) (k n w : ℕ) → k < length sizes → k < length partly → get_or partly k false ≡ false → n ≡ get_or sizes k 0 → w < length fully
    → front' ≡ front ++ replicate n (get_or fully w false) → front ++ spread (drop k sizes) (drop k partly) (drop w fully) single ≡ all
    → front' ++ spread (drop (k + 1) sizes) (drop (k + 1) partly) (drop (w + 1) fully) single ≡ all
unfolding spread
spread_whole sizes partly fully single front front' k n w h l is size m e same =
    let step : spread (drop k sizes) (drop k partly) (drop w fully) single ≡ replicate n (get_or fully w false) ++ spread (drop (k + 1) sizes) (drop (k + 1) partly) (drop (w + 1) fully) single =
    rw (drop_more sizes k 0 h, drop_more partly k false l, drop_more fully w false m, is, size) refl in
    rw (e, append_assoc front (replicate n (get_or fully w false)) (spread (drop (k + 1) sizes) (drop (k + 1) partly) (drop (w + 1) fully) single), ← step) same
