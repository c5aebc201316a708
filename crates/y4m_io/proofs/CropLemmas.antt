-- Rows of a plane as a picture has them, and the shape of a frame. The calls of `crop` cite these.
use Rattle.std.proofs.Common.{◌≡◌, ◌∙◌, ℕ, suc, ◌+◌, ◌-◌, ◌*◌, ◌/◌, ◌<◌, ◌≤◌, List, ◌++◌, length, take, drop, get_or, sym, ap, arith, append_assoc, length-take, length-drop}
use Rattle.std.proofs.lemmas.List.{places, append-nil, take_all}
use Rattle.std.proofs.lemmas.List.FromFn.{fill_by_all, length-map-range_with_len}
use Rattle.std.proofs.Math.Seq.{take-append_seam, take-append-add}
use Rattle.std.proofs.lemmas.Nat.{mul-le}
use Rattle.vid_base.specs.declared.shape.Shape.{Shape}
use Rattle.vid_base.specs.Sizes.{plane_width, plane_height}
use Rattle.thr_ident.specs.declared.ident.Ident.{Ident}
use Rattle.vid_plane.specs.Picture.{Picture, pixel, run_of}
use Rattle.vid_plane.specs.Frames.{IsPlaneOf, IsFrameOf}
use Rattle.vid_plane.specs.declared.frame.Frame.{Frame}
use Rattle.vid_plane.proofs.PictureLemmas.{get_or-run_of}
use Rattle.y4m_io.specs.Crop.{rows_down, shape_of}
use Rattle.y4m_io.specs.Pictures.{IsSize}

pub length-run_of : (p : Picture) (x y n : ℕ) → length (run_of p x y n) ≡ n
unfolding run_of
length-run_of p x y n = length-map-range_with_len (λ k. pixel p (x + k) y) 0 n

-- a part of a row is a run
pub run_part : (p : Picture) (x y n w : ℕ) → x + n ≤ w → take n (drop x (run_of p 0 y w)) ≡ run_of p x y n
unfolding run_of
run_part p x y n w fits =
    let row = run_of p 0 y w in
    let long : length row ≡ w = length-run_of p 0 y w in
    let size : length (take n (drop x row)) ≡ n = omega (arith, long, length-take n (drop x row), length-drop x row) in
    fill_by_all (λ k. pixel p (x + k) y) (take n (drop x (run_of p 0 y w))) n 0 size
    (λ k below. let i : get_or (take n (drop x row)) k 0 ≡ get_or row (x + k) 0 = search (arith, places) in
    i ∙ get_or-run_of p 0 y w (x + k) (omega arith) ∙ ap (λ j. pixel p j y) (let e : 0 + (x + k) ≡ x + k = omega arith in e))

-- rows that stand, one more behind them, and those that are left
pub rows_next : (p : Picture) (x y n m k at : ℕ) (into new row : List ℕ) → k < m → length into ≡ m * n → at ≡ k * n → length row ≡ n → at + n ≤ length into
    → take at into ++ rows_down p x y n (m - k) ≡ rows_down p x y n m → row ≡ run_of p x (y + (m - 1 - k)) n → new ≡ take at into ++ (row ++ drop (at + length row) into)
    → take ((k + 1) * n) new ++ rows_down p x y n (m - (k + 1)) ≡ rows_down p x y n m
unfolding rows_down
rows_next p x y n m k at into new row below size place long fits done is e =
    let a = take at into in
    let rest = drop (at + length row) into in
    let la : length a ≡ at = omega (arith, length-take at into) in
    let left : m - k ≡ suc (m - (k + 1)) = omega arith in
    let same : m - 1 - k ≡ m - (k + 1) = omega arith in
    let count : (k + 1) * n ≡ length a + length row = grind (arith, la, long, place) in
    let front : take (length a + length row) (a ++ (row ++ rest)) ≡ a ++ row = take-append-add a (row ++ rest) (length row) ∙ ap (λ xs. a ++ xs) (take-append_seam row rest) in
    let now : take ((k + 1) * n) new ≡ a ++ row = ap (take ((k + 1) * n)) e ∙ ap (λ c. take c (a ++ (row ++ rest))) count ∙ front in
    ap (λ xs. xs ++ rows_down p x y n (m - (k + 1))) now ∙ append_assoc a row (rows_down p x y n (m - (k + 1)))
    ∙ ap (λ r. a ++ (r ++ rows_down p x y n (m - (k + 1)))) (is ∙ ap (λ i. run_of p x (y + i) n) same)
    ∙ sym (ap (λ i. a ++ rows_down p x y n i) left) ∙ done

-- all rows
pub rows_done : (p : Picture) (x y n m k at : ℕ) (into : List ℕ) → m ≤ k → length into ≡ m * n → at ≡ m * n → take at into ++ rows_down p x y n (m - k) ≡ rows_down p x y n m → into ≡ rows_down p x y n m
unfolding rows_down
rows_done p x y n m k at into end size place done =
    let none : m - k ≡ 0 = omega arith in
    let whole : take at into ≡ into = take_all at into (omega arith) in
    sym whole ∙ sym (append-nil (take at into)) ∙ sym (ap (λ i. take at into ++ rows_down p x y n i) none) ∙ done

-- a stream's picture lies in a frame of its size
pub size_of_ident : (i : Ident) → IsSize i.picw i.pich i.pf
size_of_ident i =
    let across : (i.picw + 15) / 16 ≤ i.fmbw = omega (arith, i.across) in
    let up : (i.pich + 15) / 16 ≤ i.fmbh = omega (arith, i.upwards) in
    let most : ((i.picw + 15) / 16) * ((i.pich + 15) / 16) ≤ i.fmbw * i.fmbh = mul-le ((i.picw + 15) / 16) ((i.pich + 15) / 16) i.fmbw i.fmbh across up in
    record { wide = i.picture.0; high = i.picture.1; small = omega (arith, most, i.small); format = i.format }

-- a frame of that shape
pub frame_of_ident : (i : Ident) (s : Shape) (f : Frame) → s.fmbw ≡ i.fmbw → s.fmbh ≡ i.fmbh → s.pf ≡ i.pf → IsFrameOf s f → IsFrameOf (shape_of i) f
frame_of_ident i s f w h pf is = record { y = plane 0 f.y is.y; cb = plane 1 f.cb is.cb; cr = plane 2 f.cr is.cr }
  where
    plane : (pli : ℕ) (p : Picture) → IsPlaneOf s pli p → IsPlaneOf (shape_of i) pli p
    plane pli p h2 = record {
      width = h2.width ∙ ap (λ n. plane_width n s.pf pli) w ∙ ap (λ n. plane_width i.fmbw n pli) pf;
      height = h2.height ∙ ap (λ n. plane_height n s.pf pli) h ∙ ap (λ n. plane_height i.fmbh n pli) pf;
    }
