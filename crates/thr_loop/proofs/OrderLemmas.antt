-- Edges behind one another: of a block, and one block or one row of blocks more. The loops over blocks cite these.
use Rattle.std.proofs.Common.{◌≡◌, ◌∙◌, ℕ, ◌+◌, Bool, true, false, nat_lt, List, [], ◌∷◌, ◌++◌, map, refl, sym, ap, arith}
use Rattle.std.specs.List.{fold, flat_map, range_with_len}
use Rattle.std.proofs.lemmas.List.{append-nil}
use Rattle.std.proofs.lemmas.List.Sums.{fold-append}
use Rattle.std.proofs.lemmas.List.FromFn.{map-range_with_len_more}
use Rattle.std.proofs.lemmas.Grind.{flat_map-append}
use Rattle.vid_plane.specs.Picture.{Picture}
use Rattle.vid_geom.specs.Squares.{Cell, cell}
use Rattle.vid_geom.specs.MacroBlocks.{raster}
use Rattle.vid_geom.proofs.ListLemmas.{range-append}
use Rattle.thr_loop.specs.EdgeRule.{Edge, edge_filtered}
use Rattle.thr_loop.specs.Edges.{left_edge, lower_edge, right_of, above, edge_if, is_uncoded, coded_block_edges, block_edges, plane_edges}
use Rattle.thr_loop.specs.Rows.{row_edges}

-- a block that is not coded has none
pub uncoded_block : (l : ℕ) (p : Picture) (coded : Cell → Bool) (columns rows : ℕ) (c : Cell) → coded c ≡ false → p ≡ fold (edge_filtered l) p (block_edges coded columns rows c)
unfolding block_edges
uncoded_block l p coded columns rows c e = rw e refl

-- a coded one has its four, one after another
pub coded_block : (l : ℕ) (p left lower right upper : Picture) (coded : Cell → Bool) (columns rows col row : ℕ) → coded (cell col row) ≡ true
    → left ≡ fold (edge_filtered l) p (edge_if (nat_lt 0 col) (left_edge (cell col row)))
    → lower ≡ fold (edge_filtered l) left (edge_if (nat_lt 0 row) (lower_edge (cell col row)))
    → right ≡ fold (edge_filtered l) lower (edge_if (is_uncoded coded columns rows (cell (col + 1) row)) (left_edge (cell (col + 1) row)))
    → upper ≡ fold (edge_filtered l) right (edge_if (is_uncoded coded columns rows (cell col (row + 1))) (lower_edge (cell col (row + 1))))
    → upper ≡ fold (edge_filtered l) p (block_edges coded columns rows (cell col row))
unfolding block_edges coded_block_edges
coded_block l p left lower right upper coded columns rows col row e e1 e2 e3 e4 =
    let f = edge_filtered l in
    let c : Cell = cell col row in
    let a1 = edge_if (nat_lt 0 col) (left_edge c) in
    let a2 = edge_if (nat_lt 0 row) (lower_edge c) in
    let a3 = edge_if (is_uncoded coded columns rows (right_of c)) (left_edge (right_of c)) in
    let a4 = edge_if (is_uncoded coded columns rows (above c)) (lower_edge (above c)) in
    let joined : fold f p (a1 ++ a2 ++ a3 ++ a4) ≡ fold f (fold f (fold f (fold f p a1) a2) a3) a4 =
    fold-append f p (a1 ++ a2 ++ a3) a4 ∙ ap (λ (q : Picture). fold f q a4) (fold-append f p (a1 ++ a2) a3 ∙ ap (λ (q : Picture). fold f q a3) (fold-append f p a1 a2)) in
    rw e (e4 ∙ ap (λ (q : Picture). fold f q a4) (e3 ∙ ap (λ (q : Picture). fold f q a3) (e2 ∙ ap (λ (q : Picture). fold f q a2) e1)) ∙ sym joined)

-- no block of a row yet, and one block more
pub row_edges_none : (l : ℕ) (p : Picture) (coded : Cell → Bool) (columns rows row : ℕ) → p ≡ fold (edge_filtered l) p (row_edges coded columns rows 0 row)
unfolding row_edges
row_edges_none l p coded columns rows row = refl

pub row_edges_more : (l : ℕ) (p q r : Picture) (coded : Cell → Bool) (columns rows n row : ℕ) → q ≡ fold (edge_filtered l) p (row_edges coded columns rows n row)
    → r ≡ fold (edge_filtered l) q (block_edges coded columns rows (cell n row)) → r ≡ fold (edge_filtered l) p (row_edges coded columns rows (n + 1) row)
unfolding row_edges
row_edges_more l p q r coded columns rows n row e1 e2 =
    let f = edge_filtered l in
    let edges = block_edges coded columns rows in
    let at : ℕ → Cell = λ col. cell col row in
    let so_far = flat_map edges (map at (range_with_len 0 n)) in
    let longer : flat_map edges (map at (range_with_len 0 (n + 1))) ≡ so_far ++ edges (at n) =
    ap (λ (cs : List Cell). flat_map edges cs) (map-range_with_len_more at 0 n n (omega arith)) ∙ flat_map-append edges (map at (range_with_len 0 n)) (at n ∷ []) ∙ ap (λ es. so_far ++ es) (append-nil (edges (at n))) in
    e2 ∙ ap (λ (s : Picture). fold f s (edges (at n))) e1 ∙ sym (fold-append f p so_far (edges (at n))) ∙ ap (λ es. fold f p es) (sym longer)

-- the edges of the rows of blocks below one
abbrev pub rows_edges : (Cell → Bool) → ℕ → ℕ → ℕ → List Edge
rows_edges coded columns rows n = flat_map (block_edges coded columns rows) (raster columns n)

-- no row yet, and one row more
pub rows_edges_none : (l : ℕ) (p : Picture) (coded : Cell → Bool) (columns rows : ℕ) → p ≡ fold (edge_filtered l) p (rows_edges coded columns rows 0)
unfolding raster
rows_edges_none l p coded columns rows = refl

pub rows_edges_more : (l : ℕ) (p q r : Picture) (coded : Cell → Bool) (columns rows n : ℕ) → q ≡ fold (edge_filtered l) p (rows_edges coded columns rows n)
    → r ≡ fold (edge_filtered l) q (row_edges coded columns rows columns n) → r ≡ fold (edge_filtered l) p (rows_edges coded columns rows (n + 1))
unfolding row_edges raster
rows_edges_more l p q r coded columns rows n e1 e2 =
    let f = edge_filtered l in
    let edges = block_edges coded columns rows in
    let line : ℕ → List Cell = λ row. map (λ col. cell col row) (range_with_len 0 columns) in
    let cells = flat_map line (range_with_len 0 n) in
    let first : 0 + n ≡ n = omega arith in
    let more : flat_map line (range_with_len 0 (n + 1)) ≡ cells ++ line n =
    ap (λ (ks : List ℕ). flat_map line ks) (range-append 0 n 1 ∙ ap (λ k. range_with_len 0 n ++ k ∷ []) first) ∙ flat_map-append line (range_with_len 0 n) (n ∷ []) ∙ ap (λ cs. cells ++ cs) (append-nil (line n)) in
    let longer : flat_map edges (flat_map line (range_with_len 0 (n + 1))) ≡ flat_map edges cells ++ flat_map edges (line n) = ap (λ (cs : List Cell). flat_map edges cs) more ∙ flat_map-append edges cells (line n) in
    e2 ∙ ap (λ (s : Picture). fold f s (flat_map edges (line n))) e1 ∙ sym (fold-append f p (flat_map edges cells) (flat_map edges (line n))) ∙ ap (λ es. fold f p es) (sym longer)

-- all rows
pub plane_edges_is : (coded : Cell → Bool) (columns rows : ℕ) → plane_edges coded columns rows ≡ rows_edges coded columns rows rows
unfolding plane_edges
plane_edges_is coded columns rows = refl
