-- Lists whose elements are numbered one after another. The lemmas on squares and on the coded order cite these.
use Rattle.std.proofs.Common.{◌≡◌, ◌∙◌, ℕ, zero, suc, ◌+◌, ◌<◌, ◌≤◌, List, [], ◌∷◌, ◌++◌, length, get_or, take, drop, map, ◌*◌, Some, slice_get, refl, sym, ap, arith, length-append, add-zero}
use Rattle.std.specs.List.{flat_map, range_with_len, All, Contains}
use Rattle.std.proofs.lemmas.List.{map-append, get_or-map, length-map}
use Rattle.std.proofs.lemmas.Simd.{map-map}
use Rattle.std.proofs.lemmas.List.FromFn.{get_or-range_with_len}
use Rattle.std.proofs.lemmas.Option.{slice_get_within, get_or_from_slice_get}
use Rattle.vid_geom.specs.Squares.{joined}
use Rattle.vid_geom.specs.CodedOrder.{ranges_from}
use Rattle.vid_geom.proofs.ListLemmas.{range-append, map_agree, map-range_with_len-add, slice_get-Contains}

-- the elements' numbers are `from` and those that follow, up to `past`
pub record Numbered {X : Type 0} (number : X → ℕ) (from past : ℕ) (xs : List X) : Type 0 where
  pub numbers : map number xs ≡ range_with_len from (length xs)
  pub long : from + length xs ≡ past

pub Numbered-nil : {X : Type 0} (number : X → ℕ) (from past : ℕ) → from ≡ past → Numbered number from past []
Numbered-nil number from past e = record { numbers = refl; long = omega arith }

pub Numbered-append : {X : Type 0} (number : X → ℕ) (from mid past : ℕ) (xs ys : List X) → Numbered number from mid xs → Numbered number mid past ys → Numbered number from past (xs ++ ys)
Numbered-append number from mid past xs ys a b =
    let e : length (xs ++ ys) ≡ length xs + length ys = length-append xs ys in
    record {
      numbers = rw e (map-append number xs ys ∙ ap (λ l. l ++ map number ys) a.numbers ∙ ap (λ l. range_with_len from (length xs) ++ l) (b.numbers ∙ ap (λ k. range_with_len k (length ys)) (sym a.long)) ∙ sym (range-append from (length xs) (length ys)));
      long = omega (arith, e, a.long, b.long);
    }

-- lists behind one another, where each goes from one bound to the next
pub Numbered-flat_map : {X : Type 0} (number : X → ℕ) (f : ℕ → List X) (bound : ℕ → ℕ) (a n : ℕ) → ((k : ℕ) → k < a + n → Numbered number (bound k) (bound (k + 1)) (f k)) → Numbered number (bound a) (bound (a + n)) (flat_map f (range_with_len a n))
Numbered-flat_map number f bound a zero each = Numbered-nil number (bound a) (bound (a + 0)) (ap bound (sym (add-zero a)))
Numbered-flat_map number f bound a (suc n) each =
    let e : (a + 1) + n ≡ a + suc n = omega arith in
    Numbered-append number (bound a) (bound (a + 1)) (bound (a + suc n)) (f a) (flat_map f (range_with_len (a + 1) n)) (each a (omega arith))
    (let rest : Numbered number (bound (a + 1)) (bound ((a + 1) + n)) (flat_map f (range_with_len (a + 1) n)) = Numbered-flat_map number f bound (a + 1) n (λ k h. each k (omega arith)) in rw e at rest)

-- lists behind one another that belong to numbered elements, each of the same length
pub Numbered-flat_map-by : {X Y : Type 0} (number : X → ℕ) (own : Y → ℕ) (f : Y → List X) (size from past : ℕ) (ys : List Y) → ((y : Y) → Numbered number (own y * size) (own y * size + size) (f y))
    → Numbered own from past ys → Numbered number (from * size) (past * size) (flat_map f ys)
Numbered-flat_map-by number own f size from past [] each n = Numbered-nil number (from * size) (past * size) (let e : from ≡ past = omega (arith, n.long) in ap (λ k. k * size) e)
Numbered-flat_map-by number own f size from past (y ∷ ys) each n =
    let is : own y ≡ from = ap (λ l. get_or l 0 0) n.numbers in
    let rest : Numbered own (from + 1) past ys = record { numbers = ap (drop 1) n.numbers; long = omega (arith, n.long) } in
    let e : (from + 1) * size ≡ from * size + size = grind arith in
    Numbered-append number (from * size) (from * size + size) (past * size) (f y) (flat_map f ys)
    (rw is at (each y)) (rw e at (Numbered-flat_map-by number own f size (from + 1) past ys each rest))

-- an element's number tells where it stands
pub number_at : {X : Type 0} (number : X → ℕ) (from past : ℕ) (xs : List X) → Numbered number from past xs → (k : ℕ) (x : X) → slice_get xs k ≡ Some x → number x ≡ from + k
number_at number from past xs n k x h =
    let l : k < length xs = slice_get_within xs k x h in
    ap number (sym (get_or_from_slice_get xs k x x h)) ∙ sym (get_or-map number xs k x 0 l) ∙ ap (λ l. get_or l k 0) n.numbers ∙ get_or-range_with_len from (length xs) k 0 l

-- an element stands once where its number tells its place
pub once_from_numbers : {X : Type 0} (number : X → ℕ) (from past : ℕ) (xs : List X) → Numbered number from past xs → (i j : ℕ) (x : X) → slice_get xs i ≡ Some x → slice_get xs j ≡ Some x → i ≡ j
once_from_numbers number from past xs n i j x h k = omega (arith, number_at number from past xs n i x h, number_at number from past xs n j x k)

-- the same after a function that adds one number to all of them
pub Numbered-map : {X Y : Type 0} (number : X → ℕ) (f : Y → X) (own : Y → ℕ) (more from past : ℕ) (ys : List Y) → All (λ y. number (f y) ≡ more + own y) ys → Numbered own from past ys → Numbered number (more + from) (more + past) (map f ys)
Numbered-map number f own more from past ys same n =
    let e : length (map f ys) ≡ length ys = length-map ys f in
    record {
      numbers = rw e (map-map number f ys ∙ map_agree (λ y. number (f y)) (λ y. more + own y) ys same ∙ sym (map-map (λ k. more + k) own ys) ∙ ap (map (λ k. more + k)) n.numbers ∙ map-range_with_len-add more from (length ys));
      long = omega (arith, e, n.long);
    }

-- the places of a list of lists, by the lists before it
pub slice_get-ranges_from : {X : Type 0} (from : ℕ) (lists : List (List X)) (k : ℕ) → k < length lists
    → slice_get (ranges_from from lists) k ≡ Some (from + length (joined (take k lists)), from + length (joined (take k lists)) + length (get_or lists k []))
unfolding ranges_from joined
slice_get-ranges_from from [] k h = absurd (omega arith)
slice_get-ranges_from from (list ∷ lists) zero h = let e : from + 0 ≡ from = add-zero from in rw e refl
slice_get-ranges_from from (list ∷ lists) (suc k) h =
    let e : from + length (list ++ joined (take k lists)) ≡ from + length list + length (joined (take k lists)) = omega (arith, length-append list (joined (take k lists))) in
    slice_get-ranges_from (from + length list) lists k (omega arith) ∙ ap (λ n. Some (n, n + length (get_or lists k []))) (sym e)

pub length-ranges_from : {X : Type 0} (from : ℕ) (lists : List (List X)) → length (ranges_from from lists) ≡ length lists
unfolding ranges_from
length-ranges_from from [] = refl
length-ranges_from from (list ∷ lists) = ap suc (length-ranges_from (from + length list) lists)

pub ranges_from-append : {X : Type 0} (from : ℕ) (a b : List (List X)) → ranges_from from (a ++ b) ≡ ranges_from from a ++ ranges_from (from + length (joined a)) b
unfolding ranges_from joined
ranges_from-append from [] b = let e : from + 0 ≡ from = add-zero from in rw e refl
ranges_from-append from (list ∷ a) b =
    let e : from + length list + length (joined a) ≡ from + length (list ++ joined a) = omega (arith, length-append list (joined a)) in
    ap (λ l. (from, from + length list) ∷ l) (ranges_from-append (from + length list) a b ∙ ap (λ n. ranges_from (from + length list) a ++ ranges_from n b) e)

pub ranges_from-map : {X Y : Type 0} (f : X → Y) (from : ℕ) (lists : List (List X)) → ranges_from from (map (map f) lists) ≡ ranges_from from lists
unfolding ranges_from
ranges_from-map f from [] = refl
ranges_from-map f from (list ∷ lists) =
    let e : length (map f list) ≡ length list = length-map list f in
    rw e (ap (λ l. (from, from + length list) ∷ l) (ranges_from-map f (from + length list) lists))

-- an element's number lies between the bounds
pub number_between : {X : Type 0} (number : X → ℕ) (from past : ℕ) (xs : List X) → Numbered number from past xs → (x : X) → Contains xs x → (from ≤ number x) × (number x < past)
number_between number from past xs n x c =
    let found = slice_get-Contains xs x c in
    let l : found.0 < length xs = slice_get_within xs found.0 x found.1 in
    let e = number_at number from past xs n found.0 x found.1 in
    (omega arith, omega (arith, n.long))
