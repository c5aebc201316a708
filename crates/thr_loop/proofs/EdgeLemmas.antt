-- Which samples an edge changes, line after line, and that a picture in which just these were changed is the edge filtered. The functions on edges cite these.
use Rattle.std.proofs.Common.{◌≡◌, ◌∙◌, ℕ, zero, suc, ◌+◌, ◌-◌, ◌*◌, ◌<◌, ◌≤◌, false, List, [], ◌∷◌, ◌++◌, length, get_or, map, refl, sym, ap, subst, arith}
use Rattle.std.specs.List.{fold, range_with_len}
use Rattle.std.proofs.lemmas.List.Sums.{fold_push}
use Rattle.std.proofs.lemmas.List.FromFn.{map-range_with_len_more}
use Rattle.vid_plane.specs.Picture.{Picture, pixel, with_pixel, with_row, IsPicture}
use Rattle.vid_plane.specs.Paints.{Paints}
use Rattle.vid_plane.proofs.PictureLemmas.{width-with_pixel, height-with_pixel, length-with_pixel, sealed-with_pixel}
use Rattle.vid_plane.proofs.PaintLemmas.{Paints-none, Paints-no_rows, Paints-with_pixel, Paints-by, Paints-beside, Paints-on, Paints-unique}
use Rattle.thr_loop.specs.EdgeRule.{Line, Edge, Upright, Level, line_of, line_filtered, edge_filtered, sample_at, before_edge, behind_edge}
use Rattle.thr_loop.specs.Lanes.{AreLines, AreFiltered}
use Rattle.thr_loop.specs.declared.lines.Lines.{Lines}
use Rattle.thr_loop.specs.declared.lines.Sides.{Sides}

-- the samples of a line on both sides of the edge, filtered
abbrev pub sides_at : ℕ → Picture → Line → List ℕ
sides_at l p line =
    before_edge l (sample_at p line.p0) (sample_at p line.p1) (sample_at p line.p2) (sample_at p line.p3)
    ∷ behind_edge l (sample_at p line.p0) (sample_at p line.p1) (sample_at p line.p2) (sample_at p line.p3)
    ∷ []

-- the first lines of an edge, filtered
abbrev pub some_lines : ℕ → Picture → Edge → ℕ → Picture
some_lines l p edge n = fold (line_filtered l) p (map (line_of edge) (range_with_len 0 n))

one_more : (l : ℕ) (p : Picture) (edge : Edge) (n : ℕ) → some_lines l p edge (suc n) ≡ line_filtered l (some_lines l p edge n) (line_of edge n)
one_more l p edge n =
    let e : n + 1 ≡ suc n = omega arith in
    let more : map (line_of edge) (range_with_len 0 (n + 1)) ≡ map (line_of edge) (range_with_len 0 n) ++ line_of edge n ∷ [] = map-range_with_len_more (line_of edge) 0 n n (omega arith) in
    let longer : map (line_of edge) (range_with_len 0 (suc n)) ≡ map (line_of edge) (range_with_len 0 n) ++ line_of edge n ∷ [] = rw e at more in
    ap (λ (lines : List Line). fold (line_filtered l) p lines) longer ∙ fold_push (line_filtered l) p (map (line_of edge) (range_with_len 0 n)) (line_of edge n)

-- a line across a level edge changes a sample and the one above it
level_line : (l : ℕ) (q : Picture) (x y k : ℕ) → length q.samples ≡ q.width * q.height → x + k < q.width → 2 ≤ y → y < q.height
    → Paints q (line_filtered l q (line_of (Level x y) k)) (x + k) (y - 1) 1 2 (λ _ v. get_or (sides_at l q (line_of (Level x y) k)) v 0)
unfolding line_filtered
level_line l q x y k size hx hy hh =
    let pair = sides_at l q (line_of (Level x y) k) in
    let b : ℕ = get_or pair 0 0 in
    let c : ℕ = get_or pair 1 0 in
    let m : Picture = with_pixel q (x + k) (y - 1) b in
    let f : ℕ → ℕ → ℕ = λ _ v. get_or pair v 0 in
    let up : y ≡ y - 1 + 1 = omega arith in
    let ew : m.width ≡ q.width = width-with_pixel q (x + k) (y - 1) b in
    let eh : m.height ≡ q.height = height-with_pixel q (x + k) (y - 1) b in
    let el : length m.samples ≡ length q.samples = length-with_pixel q (x + k) (y - 1) b in
    let es : q.width * q.height ≡ m.width * m.height = rw (ew, eh) refl in
    let first : Paints q m (x + k) (y - 1) 1 1 f =
    Paints-by q m (x + k) (y - 1) 1 1 (λ _ _. b) f (Paints-with_pixel q (x + k) (y - 1) b size hx (omega arith)) (λ u v hu hv. let e : 0 ≡ v = omega arith in ap (λ z. get_or pair z 0) e) in
    let at : Paints m (with_pixel m (x + k) y c) (x + k) y 1 1 (λ _ _. c) = Paints-with_pixel m (x + k) y c (omega arith) (omega arith) (omega arith) in
    let second : Paints m (with_pixel m (x + k) y c) (x + k) (y - 1 + 1) 1 1 (λ _ _. c) = subst (λ z. Paints m (with_pixel m (x + k) y c) (x + k) z 1 1 (λ _ _. c)) up at in
    Paints-on q m (with_pixel m (x + k) y c) (x + k) (y - 1) 1 1 1 f (λ _ _. c) first second (λ u v hu hv. let e : 1 ≡ 1 + v = omega arith in ap (λ z. get_or pair z 0) e) (omega arith) (omega arith)

-- a line across an upright edge changes a sample and the one to its right
upright_line : (l : ℕ) (q : Picture) (x y k : ℕ) → length q.samples ≡ q.width * q.height → y + k < q.height → 2 ≤ x → x < q.width
    → Paints q (line_filtered l q (line_of (Upright x y) k)) (x - 1) (y + k) 2 1 (λ u _. get_or (sides_at l q (line_of (Upright x y) k)) u 0)
unfolding line_filtered
upright_line l q x y k size hy hx hw =
    let pair = sides_at l q (line_of (Upright x y) k) in
    let b : ℕ = get_or pair 0 0 in
    let c : ℕ = get_or pair 1 0 in
    let m : Picture = with_pixel q (x - 1) (y + k) b in
    let f : ℕ → ℕ → ℕ = λ u _. get_or pair u 0 in
    let right : x ≡ x - 1 + 1 = omega arith in
    let ew : m.width ≡ q.width = width-with_pixel q (x - 1) (y + k) b in
    let eh : m.height ≡ q.height = height-with_pixel q (x - 1) (y + k) b in
    let el : length m.samples ≡ length q.samples = length-with_pixel q (x - 1) (y + k) b in
    let es : q.width * q.height ≡ m.width * m.height = rw (ew, eh) refl in
    let first : Paints q m (x - 1) (y + k) 1 1 f =
    Paints-by q m (x - 1) (y + k) 1 1 (λ _ _. b) f (Paints-with_pixel q (x - 1) (y + k) b size (omega arith) hy) (λ u v hu hv. let e : 0 ≡ u = omega arith in ap (λ z. get_or pair z 0) e) in
    let at : Paints m (with_pixel m x (y + k) c) x (y + k) 1 1 (λ _ _. c) = Paints-with_pixel m x (y + k) c (omega arith) (omega arith) (omega arith) in
    let second : Paints m (with_pixel m x (y + k) c) (x - 1 + 1) (y + k) 1 1 (λ _ _. c) = subst (λ z. Paints m (with_pixel m x (y + k) c) z (y + k) 1 1 (λ _ _. c)) right at in
    Paints-beside q m (with_pixel m x (y + k) c) (x - 1) (y + k) 1 1 1 f (λ _ _. c) first second (λ u v hu hv. let e : 1 ≡ 1 + u = omega arith in ap (λ z. get_or pair z 0) e) (omega arith) (omega arith)

-- some lines across a level edge
level_lines : (l : ℕ) (p : Picture) (x y n : ℕ) → length p.samples ≡ p.width * p.height → x + n ≤ p.width → 2 ≤ y → y + 2 ≤ p.height
    → Paints p (some_lines l p (Level x y) n) x (y - 1) n 2 (λ u v. get_or (sides_at l p (line_of (Level x y) u)) v 0)
level_lines l p x y zero size hx hy hh = Paints-none p x (y - 1) 2 (λ u v. get_or (sides_at l p (line_of (Level x y) u)) v 0)
level_lines l p x y (suc n) size hx hy hh =
    let f : ℕ → ℕ → ℕ = λ u v. get_or (sides_at l p (line_of (Level x y) u)) v 0 in
    let q : Picture = some_lines l p (Level x y) n in
    let before : Paints p q x (y - 1) n 2 f = level_lines l p x y n size (omega arith) hy hh in
    let ew : q.width ≡ p.width = before.same_width in
    let eh : q.height ≡ p.height = before.same_height in
    let el : length q.samples ≡ length p.samples = before.same_length in
    let es : p.width * p.height ≡ q.width * q.height = rw (ew, eh) refl in
    let kept : (v : ℕ) → v < p.height → pixel q (x + n) v ≡ pixel p (x + n) v = λ v hv. before.right (x + n) v (omega arith) (omega arith) hv in
    let e0 = kept (y - 2) (omega arith) in
    let e1 = kept (y - 1) (omega arith) in
    let e2 = kept y (omega arith) in
    let e3 = kept (y + 1) (omega arith) in
    let same : sides_at l q (line_of (Level x y) n) ≡ sides_at l p (line_of (Level x y) n) = rw (e0, e1, e2, e3) refl in
    let one = level_line l q x y n (omega arith) (omega arith) hy (omega arith) in
    let both : Paints p (line_filtered l q (line_of (Level x y) n)) x (y - 1) (n + 1) 2 f =
    Paints-beside p q (line_filtered l q (line_of (Level x y) n)) x (y - 1) n 1 2 f (λ _ v. get_or (sides_at l q (line_of (Level x y) n)) v 0) before one
    (λ u v hu hv. let e : n ≡ n + u = omega arith in ap (λ s. get_or s v 0) same ∙ ap (λ z. f z v) e) (omega arith) (omega arith) in
    let e : n + 1 ≡ suc n = omega arith in
    subst (λ (r : Picture). Paints p r x (y - 1) (suc n) 2 f) (sym (one_more l p (Level x y) n)) (subst (λ m. Paints p (line_filtered l q (line_of (Level x y) n)) x (y - 1) m 2 f) e both)

-- some lines across an upright edge
upright_lines : (l : ℕ) (p : Picture) (x y n : ℕ) → length p.samples ≡ p.width * p.height → y + n ≤ p.height → 2 ≤ x → x + 2 ≤ p.width
    → Paints p (some_lines l p (Upright x y) n) (x - 1) y 2 n (λ u v. get_or (sides_at l p (line_of (Upright x y) v)) u 0)
upright_lines l p x y zero size hy hx hw = Paints-no_rows p (x - 1) y 2 (λ u v. get_or (sides_at l p (line_of (Upright x y) v)) u 0)
upright_lines l p x y (suc n) size hy hx hw =
    let f : ℕ → ℕ → ℕ = λ u v. get_or (sides_at l p (line_of (Upright x y) v)) u 0 in
    let q : Picture = some_lines l p (Upright x y) n in
    let before : Paints p q (x - 1) y 2 n f = upright_lines l p x y n size (omega arith) hx hw in
    let ew : q.width ≡ p.width = before.same_width in
    let eh : q.height ≡ p.height = before.same_height in
    let el : length q.samples ≡ length p.samples = before.same_length in
    let es : p.width * p.height ≡ q.width * q.height = rw (ew, eh) refl in
    let kept : (u : ℕ) → u < p.width → pixel q u (y + n) ≡ pixel p u (y + n) = λ u hu. before.above u (y + n) hu (omega arith) (omega arith) in
    let e0 = kept (x - 2) (omega arith) in
    let e1 = kept (x - 1) (omega arith) in
    let e2 = kept x (omega arith) in
    let e3 = kept (x + 1) (omega arith) in
    let same : sides_at l q (line_of (Upright x y) n) ≡ sides_at l p (line_of (Upright x y) n) = rw (e0, e1, e2, e3) refl in
    let one = upright_line l q x y n (omega arith) (omega arith) hx (omega arith) in
    let both : Paints p (line_filtered l q (line_of (Upright x y) n)) (x - 1) y 2 (n + 1) f =
    Paints-on p q (line_filtered l q (line_of (Upright x y) n)) (x - 1) y 2 n 1 f (λ u _. get_or (sides_at l q (line_of (Upright x y) n)) u 0) before one
    (λ u v hu hv. let e : n ≡ n + v = omega arith in ap (λ s. get_or s u 0) same ∙ ap (λ z. f u z) e) (omega arith) (omega arith) in
    let e : n + 1 ≡ suc n = omega arith in
    subst (λ (r : Picture). Paints p r (x - 1) y 2 (suc n) f) (sym (one_more l p (Upright x y) n)) (subst (λ m. Paints p (line_filtered l q (line_of (Upright x y) n)) (x - 1) y 2 m f) e both)

sealed_edge : (l : ℕ) (p : Picture) (edge : Edge) → (edge_filtered l p edge).sealed ≡ false
unfolding edge_filtered line_filtered with_pixel
sealed_edge l p edge = refl

-- rows written below and above a level edge are the edge filtered
pub level_is : (l : ℕ) (p m q : Picture) (x y : ℕ) (lines : Lines) (sides : Sides) → IsPicture p → x + 8 ≤ p.width → 2 ≤ y → y + 2 ≤ p.height
    → AreLines p (Level x y) lines → AreFiltered l lines sides
    → Paints p m x (y - 1) 8 1 (λ u _. get_or sides.before u 0) → Paints m q x y 8 1 (λ u _. get_or sides.behind u 0) → q.sealed ≡ false
    → q ≡ edge_filtered l p (Level x y)
unfolding edge_filtered
level_is l p m q x y lines sides shape hx hy hh read made first second open_border =
    let f : ℕ → ℕ → ℕ = λ u v. get_or (sides_at l p (line_of (Level x y) u)) v 0 in
    let up : y ≡ y - 1 + 1 = omega arith in
    let lower : Paints p m x (y - 1) 8 1 f = Paints-by p m x (y - 1) 8 1 (λ u _. get_or sides.before u 0) f first
    (λ u v hu hv. let e : 0 ≡ v = omega arith in made.before u hu ∙ rw (read.first u hu, read.second u hu, read.third u hu, read.fourth u hu) (ap (λ z. get_or (sides_at l p (line_of (Level x y) u)) z 0) e)) in
    let upper : Paints m q x (y - 1 + 1) 8 1 (λ u _. get_or sides.behind u 0) = subst (λ z. Paints m q x z 8 1 (λ u _. get_or sides.behind u 0)) up second in
    let painted : Paints p q x (y - 1) 8 2 f = Paints-on p m q x (y - 1) 8 1 1 f (λ u _. get_or sides.behind u 0) lower upper
    (λ u v hu hv. let e : 1 ≡ 1 + v = omega arith in made.behind u hu ∙ rw (read.first u hu, read.second u hu, read.third u hu, read.fourth u hu) (ap (λ z. get_or (sides_at l p (line_of (Level x y) u)) z 0) e)) hx (omega arith) in
    Paints-unique p q (some_lines l p (Level x y) 8) x (y - 1) 8 2 f shape.whole (open_border ∙ sym (sealed_edge l p (Level x y))) painted (level_lines l p x y 8 shape.whole hx hy hh)

-- pairs written across an upright edge are the edge filtered
pub upright_is : (l : ℕ) (p q : Picture) (x y : ℕ) (lines : Lines) (sides : Sides) → IsPicture p → y + 8 ≤ p.height → 2 ≤ x → x + 2 ≤ p.width
    → AreLines p (Upright x y) lines → AreFiltered l lines sides
    → Paints p q (x - 1) y 2 8 (λ u v. get_or (get_or sides.before v 0 ∷ get_or sides.behind v 0 ∷ []) u 0) → q.sealed ≡ false
    → q ≡ edge_filtered l p (Upright x y)
unfolding edge_filtered
upright_is l p q x y lines sides shape hy hx hw read made written open_border =
    let f : ℕ → ℕ → ℕ = λ u v. get_or (sides_at l p (line_of (Upright x y) v)) u 0 in
    let pairs : (v : ℕ) → v < 8 → get_or sides.before v 0 ∷ get_or sides.behind v 0 ∷ [] ≡ sides_at l p (line_of (Upright x y) v) =
    λ v hv. rw (made.before v hv, made.behind v hv, read.first v hv, read.second v hv, read.third v hv, read.fourth v hv) refl in
    let painted : Paints p q (x - 1) y 2 8 f =
    Paints-by p q (x - 1) y 2 8 (λ u v. get_or (get_or sides.before v 0 ∷ get_or sides.behind v 0 ∷ []) u 0) f written (λ u v hu hv. ap (λ s. get_or s u 0) (pairs v hv)) in
    Paints-unique p q (some_lines l p (Upright x y) 8) (x - 1) y 2 8 f shape.whole (open_border ∙ sym (sealed_edge l p (Upright x y))) painted (upright_lines l p x y 8 shape.whole hy hx hw)

sealed-with_row : (p : Picture) (x y : ℕ) (vs : List ℕ) → p.sealed ≡ false → (with_row p x y vs).sealed ≡ false
unfolding with_row
sealed-with_row p x y [] h = h
sealed-with_row p x y (v ∷ vs) h = sealed-with_row (with_pixel p x y v) (x + 1) y vs (sealed-with_pixel p x y v)

-- a written row unseals
pub unsealed-with_row : (p : Picture) (x y : ℕ) (vs : List ℕ) → 0 < length vs → (with_row p x y vs).sealed ≡ false
unfolding with_row
unsealed-with_row p x y [] h = absurd (omega arith)
unsealed-with_row p x y (v ∷ vs) h = sealed-with_row (with_pixel p x y v) (x + 1) y vs (sealed-with_pixel p x y v)
