-- Differences of lists that are put together, and of rows of planes. The functions of `difference` cite these.
use Rattle.std.proofs.Common.{◌≡◌, ◌∙◌, ℕ, zero, suc, ◌+◌, ◌*◌, ◌<◌, ◌≤◌, List, [], ◌∷◌, ◌++◌, length, get_or, take, drop, max, refl, sym, ap, arith, length-append, length-take, length-drop, drop-drop, drop-cons, add-one}
use Rattle.std.specs.Int.{abs_diff}
use Rattle.std.proofs.lemmas.List.{take-append-drop, get_or-take, get_or-drop}
use Rattle.std.proofs.Math.ListN.{drop_of_length-le}
use Rattle.std.proofs.Math.Nat.{mul_comm, zero-add}
use Rattle.std.proofs.lemmas.Nat.{row_fits}
use Rattle.std.proofs.lemmas.List.FromFn.{fill_by_all, length-map-range_with_len}
use Rattle.vid_plane.specs.Picture.{IsLike, IsPicture, Picture, pixel, row_of, run_of}
use Rattle.vid_plane.specs.declared.frame.Frame.{Frame}
use Rattle.enc_frame.specs.Difference.{differences, greatest, samples_of, total}

pub differences_join : (xs ys cs ds : List ℕ) → length xs ≡ length ys → differences (xs ++ cs) (ys ++ ds) ≡ differences xs ys ++ differences cs ds
unfolding differences
differences_join [] [] cs ds long = refl
differences_join [] (b ∷ ys) cs ds long = absurd (omega arith)
differences_join (a ∷ xs) [] cs ds long = absurd (omega arith)
differences_join (a ∷ xs) (b ∷ ys) cs ds long = ap (λ l. abs_diff a b ∷ l) (differences_join xs ys cs ds (omega arith))

pub greatest_join : (ms ns : List ℕ) → greatest (ms ++ ns) ≡ max (greatest ms) (greatest ns)
unfolding greatest
greatest_join [] ns = omega arith
greatest_join (m ∷ ms) ns = omega (arith, greatest_join ms ns)

pub total_join : (ms ns : List ℕ) → total (ms ++ ns) ≡ total ms + total ns
unfolding total
total_join [] ns = omega arith
total_join (m ∷ ms) ns = omega (arith, total_join ms ns)

-- one more sample of two rows
samples_more : (xs ys : List ℕ) (k : ℕ) → k < length xs → k < length ys → differences (drop k xs) (drop k ys) ≡ abs_diff (get_or xs k 0) (get_or ys k 0) ∷ differences (drop (k + 1) xs) (drop (k + 1) ys)
unfolding differences
samples_more xs ys k h i =
    ap (λ l. differences l (drop k ys)) (drop-cons xs k 0 h) ∙ ap (λ l. differences (get_or xs k 0 ∷ drop (suc k) xs) l) (drop-cons ys k 0 i)
    ∙ ap (λ n. abs_diff (get_or xs k 0) (get_or ys k 0) ∷ differences (drop n xs) (drop n ys)) (sym (add-one k))

-- a running maximum and a running sum with one sample more
pub max_more : (xs ys : List ℕ) (k top d m : ℕ) → k < length xs → k < length ys → d ≡ abs_diff (get_or xs k 0) (get_or ys k 0) → max top (greatest (differences (drop k xs) (drop k ys))) ≡ m
    → max (max top d) (greatest (differences (drop (k + 1) xs) (drop (k + 1) ys))) ≡ m
unfolding greatest
max_more xs ys k top d m h i is e =
    let next : greatest (differences (drop k xs) (drop k ys)) ≡ max d (greatest (differences (drop (k + 1) xs) (drop (k + 1) ys))) =
    ap greatest (samples_more xs ys k h i) ∙ ap (λ n. max n (greatest (differences (drop (k + 1) xs) (drop (k + 1) ys)))) (sym is) in
    omega (arith, next, e)

pub sum_more : (xs ys : List ℕ) (k far d n : ℕ) → k < length xs → k < length ys → d ≡ abs_diff (get_or xs k 0) (get_or ys k 0) → far + total (differences (drop k xs) (drop k ys)) ≡ n
    → (far + d) + total (differences (drop (k + 1) xs) (drop (k + 1) ys)) ≡ n
unfolding total
sum_more xs ys k far d n h i is e =
    let next : total (differences (drop k xs) (drop k ys)) ≡ d + total (differences (drop (k + 1) xs) (drop (k + 1) ys)) =
    ap total (samples_more xs ys k h i) ∙ ap (λ n. n + total (differences (drop (k + 1) xs) (drop (k + 1) ys))) (sym is) in
    omega (arith, next, e)

-- and when nothing is left
pub none_left : (xs ys : List ℕ) (k : ℕ) → length xs ≤ k → length ys ≤ k → (greatest (differences (drop k xs) (drop k ys)) ≡ 0) × (total (differences (drop k xs) (drop k ys)) ≡ 0)
unfolding greatest differences total
none_left xs ys k h i = (ap (λ l. greatest (differences l (drop k ys))) (drop_of_length-le xs h), ap (λ l. total (differences l (drop k ys))) (drop_of_length-le xs h))

-- a row as a part of a plane's samples
pub row_is : (p : Picture) (y : ℕ) → IsPicture p → y < p.height → take p.width (drop (y * p.width) p.samples) ≡ row_of p y
unfolding run_of pixel
row_is p y is h =
    let w = p.width in
    let fits : y * w + w ≤ p.height * w = row_fits y w p.height w h (omega arith) in
    let many : length p.samples ≡ p.height * w = is.whole ∙ mul_comm w p.height in
    fill_by_all (λ k. get_or p.samples (y * w + (0 + k)) 0) (take w (drop (y * w) p.samples)) w 0 (omega (arith, fits, many, length-take w (drop (y * w) p.samples), length-drop (y * w) p.samples)) (λ k below.
    get_or-take w (drop (y * w) p.samples) k 0 below ∙ get_or-drop (y * w) p.samples k 0 ∙ ap (λ n. get_or p.samples (y * w + n) 0) (sym (zero-add k)))

length_row : (p : Picture) (y : ℕ) → length (row_of p y) ≡ p.width
unfolding run_of
length_row p y = length-map-range_with_len (λ k. pixel p (0 + k) y) 0 p.width

-- the samples from a row on
pub rows_more : (p q : Picture) (y : ℕ) → IsPicture p → IsPicture q → IsLike p q → y < p.height
    → differences (drop (y * p.width) p.samples) (drop (y * p.width) q.samples) ≡ differences (row_of p y) (row_of q y) ++ differences (drop ((y + 1) * p.width) p.samples) (drop ((y + 1) * p.width) q.samples)
rows_more p q y is_p is_q like h =
    let w = p.width in
    let next : (y + 1) * w ≡ y * w + w = grind arith in
    let split : (xs : List ℕ) → drop (y * w) xs ≡ take w (drop (y * w) xs) ++ drop ((y + 1) * w) xs = λ xs.
    sym (take-append-drop w (drop (y * w) xs)) ∙ ap (λ l. take w (drop (y * w) xs) ++ l) (drop-drop w (y * w) xs ∙ ap (λ n. drop n xs) (sym next)) in
    let own_p : drop (y * w) p.samples ≡ row_of p y ++ drop ((y + 1) * w) p.samples = split p.samples ∙ ap (λ l. l ++ drop ((y + 1) * w) p.samples) (row_is p y is_p h) in
    let own_q : drop (y * w) q.samples ≡ row_of q y ++ drop ((y + 1) * w) q.samples = split q.samples ∙ ap (λ l. l ++ drop ((y + 1) * w) q.samples) (ap (λ n. take n (drop (y * n) q.samples)) like.same_width ∙ row_is q y is_q (omega (arith, h, like.same_height))) in
    ap (λ l. differences l (drop (y * w) q.samples)) own_p ∙ ap (λ l. differences (row_of p y ++ drop ((y + 1) * w) p.samples) l) own_q ∙ differences_join (row_of p y) (row_of q y) (drop ((y + 1) * w) p.samples) (drop ((y + 1) * w) q.samples) (length_row p y ∙ like.same_width ∙ sym (length_row q y))

-- the same with one row more
pub row_max_more : (p q : Picture) (y before top m : ℕ) → IsPicture p → IsPicture q → IsLike p q → y < p.height → top ≡ max before (greatest (differences (row_of p y) (row_of q y)))
    → max before (greatest (differences (drop (y * p.width) p.samples) (drop (y * p.width) q.samples))) ≡ m
    → max top (greatest (differences (drop ((y + 1) * p.width) p.samples) (drop ((y + 1) * p.width) q.samples))) ≡ m
row_max_more p q y before top m is_p is_q like h is e =
    let next = ap greatest (rows_more p q y is_p is_q like h) ∙ greatest_join (differences (row_of p y) (row_of q y)) (differences (drop ((y + 1) * p.width) p.samples) (drop ((y + 1) * p.width) q.samples)) in
    omega (arith, next, is, e)

pub row_sum_more : (p q : Picture) (y before now n : ℕ) → IsPicture p → IsPicture q → IsLike p q → y < p.height → now ≡ before + total (differences (row_of p y) (row_of q y))
    → before + total (differences (drop (y * p.width) p.samples) (drop (y * p.width) q.samples)) ≡ n
    → now + total (differences (drop ((y + 1) * p.width) p.samples) (drop ((y + 1) * p.width) q.samples)) ≡ n
row_sum_more p q y before now n is_p is_q like h is e =
    let next = ap total (rows_more p q y is_p is_q like h) ∙ total_join (differences (row_of p y) (row_of q y)) (differences (drop ((y + 1) * p.width) p.samples) (drop ((y + 1) * p.width) q.samples)) in
    omega (arith, next, is, e)

-- so many samples are before a row, and in a plane
pub samples_before : (p : Picture) (y : ℕ) → IsPicture p → y < p.height → (y * p.width + p.width ≤ 33554432) × ((y + 1) * p.width ≡ y * p.width + p.width)
samples_before p y is h =
    let fits : y * p.width + p.width ≤ p.height * p.width = row_fits y p.width p.height p.width h (omega arith) in
    (omega (arith, fits, is.small, mul_comm p.width p.height), grind arith)

pub plane_done : (p q : Picture) → IsPicture p → IsPicture q → IsLike p q
    → (greatest (differences (drop (p.height * p.width) p.samples) (drop (p.height * p.width) q.samples)) ≡ 0) × (total (differences (drop (p.height * p.width) p.samples) (drop (p.height * p.width) q.samples)) ≡ 0)
plane_done p q is_p is_q like =
    let other : length q.samples ≡ p.width * p.height = is_q.whole ∙ ap (λ n. n * q.height) (sym like.same_width) ∙ ap (λ n. p.width * n) (sym like.same_height) in
    none_left p.samples q.samples (p.height * p.width) (omega (arith, is_p.whole, mul_comm p.width p.height)) (omega (arith, other, mul_comm p.width p.height))

-- three planes
pub differences_three : (a b c d e f : List ℕ) → length a ≡ length d → length b ≡ length e → differences (a ++ b ++ c) (d ++ e ++ f) ≡ differences a d ++ differences b e ++ differences c f
differences_three a b c d e f one two =
    let both : length (a ++ b) ≡ length (d ++ e) = omega (arith, length-append a b, length-append d e) in
    differences_join (a ++ b) (d ++ e) c f both ∙ ap (λ l. l ++ differences c f) (differences_join a d b e one)

pub greatest_three : (a b c : List ℕ) → greatest (a ++ b ++ c) ≡ max (max (greatest a) (greatest b)) (greatest c)
greatest_three a b c = greatest_join (a ++ b) c ∙ ap (λ n. max n (greatest c)) (greatest_join a b)

pub total_three : (a b c : List ℕ) → total (a ++ b ++ c) ≡ total a + total b + total c
total_three a b c = total_join (a ++ b) c ∙ ap (λ n. n + total c) (total_join a b)
