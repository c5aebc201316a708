-- Planes filled block by block and row by row. The calls of `pad` cite these.
use Rattle.std.proofs.Common.{◌≡◌, ◌∙◌, ℕ, ◌+◌, ◌-◌, ◌*◌, ◌/◌, ◌%◌, ◌<◌, ◌≤◌, List, length, get_or, take, drop, length-take, length-drop, sym, ap, subst, refl, arith}
use Rattle.std.specs.Prelude.{min, map}
use Rattle.std.specs.List.{range_with_len}
use Rattle.std.proofs.lemmas.List.FromFn.{fill_by_all, get_or-map-range_with_len}
use Rattle.std.proofs.lemmas.List.{places}
use Rattle.std.proofs.lemmas.Nat.{div-mul-add, mod-mul-add}
use Rattle.vid_plane.specs.Picture.{Picture, pixel, sealed_picture, IsPicture}
use Rattle.vid_plane.specs.Paints.{Paints}
use Rattle.vid_plane.proofs.CellLemmas.{each_place}
use Rattle.vid_plane.proofs.PaintLemmas.{Paints-beside, Paints-on}
use Rattle.y4m_io.specs.Pad.{nearest_sample, padded_plane}

-- one block more of a row
pub block_more : (p q r : Picture) (y x : ℕ) (row eight : List ℕ) → Paints p q 0 y x 1 (λ u _. get_or row (min u (length row - 1)) 0)
    → eight ≡ map (λ k. get_or row (min (x + k) (length row - 1)) 0) (range_with_len 0 8) → Paints q r x y 8 1 (λ u _. get_or eight u 0) → x + 8 ≤ p.width → y < p.height
    → Paints p r 0 y (x + 8) 1 (λ u _. get_or row (min u (length row - 1)) 0)
block_more p q r y x row eight before is painted wide high =
    let from : x ≡ 0 + x = omega arith in
    let block : Paints q r (0 + x) y 8 1 (λ u _. get_or eight u 0) = subst (λ (i : ℕ). Paints q r i y 8 1 (λ u _. get_or eight u 0)) from painted in
    Paints-beside p q r 0 y x 8 1 (λ u _. get_or row (min u (length row - 1)) 0) (λ u _. get_or eight u 0) before block
    (λ u v hu hv. ap (λ (l : List ℕ). get_or l u 0) is ∙ get_or-map-range_with_len (λ k. get_or row (min (x + k) (length row - 1)) 0) 0 8 u u 0 hu (omega arith))
    (omega arith) (omega arith)

-- one row more of a plane
pub row_more : (p q r : Picture) (n m y at : ℕ) (samples row : List ℕ) → Paints p q 0 0 p.width y (nearest_sample n m samples) → Paints q r 0 y q.width 1 (λ u _. get_or row (min u (length row - 1)) 0)
    → length row ≡ n → 0 < n → at ≡ (m - 1 - min y (m - 1)) * n → ((k : ℕ) → k < n → get_or row k 0 ≡ get_or samples (at + k) 0) → y < p.height → Paints p r 0 0 p.width (y + 1) (nearest_sample n m samples)
row_more p q r n m y at samples row before painted long some place is high =
    let from : y ≡ 0 + y = omega arith in
    let f = λ (u v : ℕ). get_or row (min u (length row - 1)) 0 in
    let here : Paints q r 0 (0 + y) p.width 1 f = subst (λ (i : ℕ). Paints q r 0 i p.width 1 f) from (subst (λ (i : ℕ). Paints q r 0 y i 1 f) before.same_width painted) in
    Paints-on p q r 0 0 p.width y 1 (nearest_sample n m samples) f before here
    (λ u v hu hv.
    let row_is : y + v ≡ y = omega arith in
    let last : min u (length row - 1) ≡ min u (n - 1) = ap (λ k. min u (k - 1)) long in
    ap (λ i. get_or row i 0) last ∙ is (min u (n - 1)) (omega arith) ∙ ap (λ i. get_or samples (i + min u (n - 1)) 0) place ∙ ap (λ i. get_or samples ((m - 1 - min i (m - 1)) * n + min u (n - 1)) 0) (sym row_is))
    (omega arith) (omega arith)

-- all rows, and the seal
pub all_rows : (p q r : Picture) (n m : ℕ) (samples : List ℕ) → IsPicture p → Paints p q 0 0 p.width p.height (nearest_sample n m samples) → r ≡ sealed_picture q → r ≡ padded_plane p.width p.height n m samples
unfolding sealed_picture padded_plane pixel
all_rows p q r n m samples of painted is =
    let w = p.width in
    let f : ℕ → ℕ = λ k. nearest_sample n m samples (k % w) (k / w) in
    let each : (x y : ℕ) → x < w → y < p.height → get_or q.samples (y * w + x) 0 ≡ f (y * w + x) = λ x y hx hy.
    let zx : 0 + x ≡ x = omega arith in
    let zy : 0 + y ≡ y = omega arith in
    let at : (0 + y) * q.width + (0 + x) ≡ y * w + x = rw (zx, zy, painted.same_width) refl in
    sym (ap (λ i. get_or q.samples i 0) at) ∙ painted.inside x y hx hy ∙ sym (ap (λ i. nearest_sample n m samples i ((y * w + x) / w)) (mod-mul-add y w x hx) ∙ ap (λ i. nearest_sample n m samples x i) (div-mul-add y w x hx)) in
    let list : q.samples ≡ map f (range_with_len 0 (w * p.height)) = fill_by_all f q.samples (w * p.height) 0 (painted.same_length ∙ of.whole) (λ k below. each_place (λ k. get_or q.samples k 0 ≡ f k) w p.height k each below) in
    is ∙ rw (painted.same_width, painted.same_height, list) refl

-- a row of a picture, as a part of its samples
pub length-row : (samples : List ℕ) (at n count : ℕ) → at + n ≤ length samples → count ≡ n → length (take count (drop at samples)) ≡ n
length-row samples at n count fits e = omega (arith, length-take count (drop at samples), length-drop at samples)

pub sample_in_row : (samples : List ℕ) (at n count k : ℕ) → at + n ≤ length samples → count ≡ n → k < n → get_or (take count (drop at samples)) k 0 ≡ get_or samples (at + k) 0
sample_in_row samples at n count k fits e below = search (arith, places)
