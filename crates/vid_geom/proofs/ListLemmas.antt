-- Lists that are joined, filtered and counted: what an element's place in them is. The lemmas on squares cite these.
use Rattle.std.proofs.Common.{◌≡◌, ◌∙◌, ℕ, zero, suc, ◌+◌, ◌-◌, ◌*◌, ◌<◌, Bool, true, false, cond, List, [], ◌∷◌, ◌++◌, length, get_or, map, filter, Some, slice_get, refl, sym, ap, subst, arith, length-append}
use Rattle.std.specs.List.{flat_map, range_with_len, All, Contains}
use Rattle.std.specs.Option.{option_map}
use Rattle.std.proofs.lemmas.List.{map-append, get_or-map, length-map}
use Rattle.std.proofs.lemmas.List.Elements.{All-nil, All-append, All-head, All-tail, Contains-append_left, Contains-append_right}
use Rattle.std.proofs.lemmas.List.Folds.{flat_map-map}
use Rattle.std.proofs.lemmas.List.FromFn.{length-range_with_len, get_or-range_with_len}
use Rattle.std.proofs.lemmas.Grind.{flat_map-append}
use Rattle.std.proofs.lemmas.Option.{slice_get_within, get_or_from_slice_get, slice_get-get_or, slice_get-map, slice_get_read}
use Rattle.vid_geom.specs.Squares.{joined}

-- a range in two parts
pub range-append : (a m n : ℕ) → range_with_len a (m + n) ≡ range_with_len a m ++ range_with_len (a + m) n
range-append a zero n = let e : 0 + n ≡ n = omega arith in let f : a + 0 ≡ a = omega arith in rw (e, f) refl
range-append a (suc m) n =
    let e : suc m + n ≡ suc (m + n) = omega arith in
    let f : (a + 1) + m ≡ a + suc m = omega arith in
    rw e (ap (λ l. a ∷ l) (range-append (a + 1) m n ∙ ap (λ k. range_with_len (a + 1) m ++ range_with_len k n) f))

-- a range that begins further on
pub map-range_with_len-add : (b a n : ℕ) → map (λ k. b + k) (range_with_len a n) ≡ range_with_len (b + a) n
map-range_with_len-add b a zero = refl
map-range_with_len-add b a (suc n) =
    let e : b + (a + 1) ≡ b + a + 1 = omega arith in
    ap (λ l. (b + a) ∷ l) (map-range_with_len-add b (a + 1) n ∙ ap (λ k. range_with_len k n) e)

-- two functions that agree at each element
pub map_agree : {X Y : Type 0} (f g : X → Y) (xs : List X) → All (λ x. f x ≡ g x) xs → map f xs ≡ map g xs
map_agree f g [] h = refl
map_agree f g (x ∷ xs) h =
    let e : f x ≡ g x = All-head (λ x. f x ≡ g x) x xs h in
    let t : map f xs ≡ map g xs = map_agree f g xs (All-tail (λ x. f x ≡ g x) x xs h) in
    ap (λ y. y ∷ map f xs) e ∙ ap (λ l. g x ∷ l) t

-- two tests that agree at each element
pub filter_agree : {X : Type 0} (p q : X → Bool) (xs : List X) → All (λ x. p x ≡ q x) xs → filter p xs ≡ filter q xs
filter_agree p q [] h = refl
filter_agree p q (x ∷ xs) h =
    let e : p x ≡ q x = All-head (λ x. p x ≡ q x) x xs h in
    let t : filter p xs ≡ filter q xs = filter_agree p q xs (All-tail (λ x. p x ≡ q x) x xs h) in
    rw (e, t) refl

-- a test after a function
pub filter-map : {X Y : Type 0} (p : Y → Bool) (f : X → Y) (xs : List X) → filter p (map f xs) ≡ map f (filter (λ x. p (f x)) xs)
filter-map p f [] = refl
filter-map p f (x ∷ xs) = go (p (f x)) (filter-map p f xs)
  where
    go : (b : Bool) → filter p (map f xs) ≡ map f (filter (λ x. p (f x)) xs) → cond b (f x ∷ filter p (map f xs)) (filter p (map f xs)) ≡ map f (cond b (x ∷ filter (λ x. p (f x)) xs) (filter (λ x. p (f x)) xs))
    go true h = ap (λ l. f x ∷ l) h
    go false h = h

-- joining is joined piece by piece
pub joined-append : {X : Type 0} (a b : List (List X)) → joined (a ++ b) ≡ joined a ++ joined b
unfolding joined
joined-append a b = flat_map-append (λ list. list) a b

pub joined-map : {X A : Type 0} (f : X → List A) (xs : List X) → joined (map f xs) ≡ flat_map f xs
unfolding joined
joined-map f xs = flat_map-map (λ list. list) f xs

pub joined-flat_map : {X A : Type 0} (f : X → List (List A)) (xs : List X) → joined (flat_map f xs) ≡ flat_map (λ x. joined (f x)) xs
unfolding joined
joined-flat_map f [] = refl
joined-flat_map f (x ∷ xs) = joined-append (f x) (flat_map f xs) ∙ ap (λ l. joined (f x) ++ l) (joined-flat_map f xs)

pub joined-map-map : {X Y : Type 0} (f : X → Y) (lists : List (List X)) → joined (map (map f) lists) ≡ map f (joined lists)
unfolding joined
joined-map-map f [] = refl
joined-map-map f (list ∷ lists) = ap (λ l. map f list ++ l) (joined-map-map f lists) ∙ sym (map-append f list (joined lists))

-- an element stands where it is found
pub Contains-slice_get : {X : Type 0} (xs : List X) (k : ℕ) (x : X) → slice_get xs k ≡ Some x → Contains xs x
Contains-slice_get xs k x h = let l = slice_get_within xs k x h in (k, l, get_or_from_slice_get xs k x x h)

pub slice_get-Contains : {X : Type 0} (xs : List X) (x : X) → Contains xs x → (k : ℕ) × (slice_get xs k ≡ Some x)
slice_get-Contains xs x c = (c.0, slice_get-get_or xs c.0 x c.1 ∙ ap Some c.2)

pub Contains-cons : {X : Type 0} (y : X) (xs : List X) (x : X) → Contains xs x → Contains (y ∷ xs) x
Contains-cons y xs x h = Contains-append_right (y ∷ []) xs x h

pub Contains-map : {X Y : Type 0} (f : X → Y) (xs : List X) (x : X) → Contains xs x → Contains (map f xs) (f x)
Contains-map f xs x c = (c.0, omega (arith, length-map xs f), get_or-map f xs c.0 x (f x) c.1 ∙ ap f c.2)

pub Contains-range : (n k : ℕ) → k < n → Contains (range_with_len 0 n) k
Contains-range n k h = (k, omega (arith, length-range_with_len 0 n), get_or-range_with_len 0 n k k h ∙ omega arith)

pub Contains-filter : {X : Type 0} (p : X → Bool) (xs : List X) (x : X) → p x ≡ true → Contains xs x → Contains (filter p xs) x
Contains-filter {X} p xs x t c = go xs c.0 (c.1) c.2
  where
    kept : (b : Bool) (y : X) (ys : List X) → Contains ys x → Contains (cond b (y ∷ ys) ys) x
    kept true y ys h = Contains-cons y ys x h
    kept false y ys h = h

    go : (xs : List X) (k : ℕ) → k < length xs → get_or xs k x ≡ x → Contains (filter p xs) x
    go [] k h e = absurd (omega arith)
    go (y ∷ ys) zero h e =
        let is : p y ≡ true = ap p e ∙ t in
        rw is (0, omega arith, e)
    go (y ∷ ys) (suc k) h e = kept (p y) y (filter p ys) (go ys k (omega arith) e)

pub Contains-flat_map : {X Y : Type 0} (f : X → List Y) (xs : List X) (x : X) (y : Y) → Contains xs x → Contains (f x) y → Contains (flat_map f xs) y
Contains-flat_map {X} {Y} f xs x y c h = go xs c.0 c.1 c.2
  where
    go : (xs : List X) (k : ℕ) → k < length xs → get_or xs k x ≡ x → Contains (flat_map f xs) y
    go [] k l e = absurd (omega arith)
    go (z ∷ zs) zero l e = let P : X → Type 0 = λ v. Contains (f v) y in Contains-append_left (f z) (flat_map f zs) y (subst P (sym e) h)
    go (z ∷ zs) (suc k) l e = Contains-append_right (f z) (flat_map f zs) y (go zs k (omega arith) e)

-- elements of two lists
pub slice_get-append_left : {X : Type 0} (xs ys : List X) (k : ℕ) → k < length xs → slice_get (xs ++ ys) k ≡ slice_get xs k
slice_get-append_left [] ys k h = absurd (omega arith)
slice_get-append_left (x ∷ xs) ys zero h = refl
slice_get-append_left (x ∷ xs) ys (suc k) h = slice_get-append_left xs ys k (omega arith)

pub slice_get-append_right : {X : Type 0} (xs ys : List X) (n k : ℕ) → length xs ≡ n → slice_get (xs ++ ys) (n + k) ≡ slice_get ys k
slice_get-append_right [] ys n k e = let z : n + k ≡ k = omega arith in rw z refl
slice_get-append_right (x ∷ xs) ys zero k e = absurd (omega arith)
slice_get-append_right (x ∷ xs) ys (suc n) k e = let z : suc n + k ≡ suc (n + k) = omega arith in rw z (slice_get-append_right xs ys n k (omega arith))

-- lists of one length behind one another
pub length-flat_map_same : {X Y : Type 0} (f : X → List Y) (n : ℕ) (xs : List X) → ((x : X) → length (f x) ≡ n) → length (flat_map f xs) ≡ length xs * n
length-flat_map_same f n [] h = grind arith
length-flat_map_same f n (x ∷ xs) h =
    let rest : length (flat_map f xs) ≡ length xs * n = length-flat_map_same f n xs h in
    length-append (f x) (flat_map f xs) ∙ grind (arith, h x, rest)

-- one of them between those before it and those behind it
pub flat_map_split : {X : Type 0} (f : ℕ → List X) (n k : ℕ) → k < n → (rest : List X) × (flat_map f (range_with_len 0 n) ≡ flat_map f (range_with_len 0 k) ++ (f k ++ rest))
flat_map_split f n k h =
    let e : n ≡ k + suc (n - k - 1) = omega arith in
    let z : 0 + k ≡ k = omega arith in
    let parts : range_with_len 0 n ≡ range_with_len 0 k ++ k ∷ range_with_len (k + 1) (n - k - 1) = ap (range_with_len 0) e ∙ range-append 0 k (suc (n - k - 1)) ∙ ap (λ a. range_with_len 0 k ++ a ∷ range_with_len (a + 1) (n - k - 1)) z in
    (flat_map f (range_with_len (k + 1) (n - k - 1)), ap (flat_map f) parts ∙ flat_map-append f (range_with_len 0 k) (k ∷ range_with_len (k + 1) (n - k - 1)))

-- what holds of each element of each list holds of those behind one another
pub All-flat_map : {X Y : Type 0} (P : Y → Type 0) (f : X → List Y) (xs : List X) → All (λ x. All P (f x)) xs → All P (flat_map f xs)
All-flat_map P f [] h = All-nil P
All-flat_map P f (x ∷ xs) h = All-append P (f x) (flat_map f xs) (All-head (λ x. All P (f x)) x xs h) (All-flat_map P f xs (All-tail (λ x. All P (f x)) x xs h))

-- what holds of each element holds of the one at a place
pub All-at : {X : Type 0} (P : X → Type 0) (xs : List X) (k : ℕ) (x : X) → slice_get xs k ≡ Some x → All P xs → P x
All-at P xs k x h all = subst P (get_or_from_slice_get xs k x x h) (all k x (slice_get_within xs k x h))

-- elements that stand for others are as many
pub length_as : {X Y : Type 0} (f : X → Y) (xs : List X) (ys : List Y) → map f xs ≡ ys → length xs ≡ length ys
length_as f xs ys is = omega (arith, ap length is, length-map xs f)

-- an element that was read stands for the one at its place
pub read_as : {X Y : Type 0} (f : X → Y) (xs : List X) (ys : List Y) (k : ℕ) (x : X) → map f xs ≡ ys → k < length ys → x ≡ get_or xs k x → slice_get ys k ≡ Some (f x)
read_as f xs ys k x is within read = rw (← is) (slice_get-map f xs k ∙ ap (option_map f) (slice_get_read xs (length xs) k x refl (omega (arith, length_as f xs ys is)) read))

-- the element at a place stands for the one there, whatever stands past the ends
pub at_as : {X Y : Type 0} (f : X → Y) (xs : List X) (ys : List Y) (k : ℕ) (d : X) (e : Y) → map f xs ≡ ys → k < length ys → get_or ys k e ≡ f (get_or xs k d)
at_as f xs ys k d e is within = rw (← is) (get_or-map f xs k d e (omega (arith, length_as f xs ys is)))
