-- A quotient to the nearest whole number is nearest of all, and outside a range the end of the range is. `quotient.rt` and the frame cite these.
use Rattle.std.proofs.Common.{◌≡◌, ℕ, ℤ, pos, negsuc, ◌+ℤ◌, ◌-ℤ◌, ◌*ℤ◌, ◌*◌, ◌+◌, ◌-◌, ◌≤◌, ◌<◌, ◌⊎◌, inl, inr, ap, refl, arith}
use Rattle.std.specs.Prelude.{◌≤ℤ◌}
use Rattle.std.specs.Int.{int_div_euclid}
use Rattle.std.specs.Int.RustNames.{unsigned_abs}
use Rattle.std.proofs.lemmas.Int.{ints, clamps, by_lt_z}
use borrow.Author.Differences.{up, down, product_is}
use Rattle.thr_dc.specs.Prediction.{nearest}
use Rattle.thr_dct.specs.Line.{Within}
use Rattle.enc_near.specs.Near.{IsNearest, apart, most}
use Rattle.enc_near.specs.Rounds.{Rounds}

-- products by q of numbers one above the other
product_up : (c d : ℤ) (q n : ℕ) → d ≡ c +ℤ pos n → d *ℤ pos q ≡ c *ℤ pos q +ℤ pos (n * q)
product_up c d q n e =
    let sums : up d + down c ≡ down d + up c + n = omega (arith, ints, e) in
    let products : (up d + down c) * q ≡ (down d + up c + n) * q = ap (λ t. t * q) sums in
    omega (arith, ints, products, product_is c (pos q), product_is d (pos q))

product_grows : (c d : ℤ) (q : ℕ) → c ≤ℤ d → (c *ℤ pos q) ≤ℤ (d *ℤ pos q)
product_grows c d q h =
    let n = up d + down c - (down d + up c) in
    let e : d ≡ c +ℤ pos n = omega (arith, ints, h) in
    let m = product_up c d q n e in
    omega (arith, ints, m)

product_jumps : (c d : ℤ) (q : ℕ) → (c +ℤ pos 1) ≤ℤ d → (c *ℤ pos q +ℤ pos q) ≤ℤ (d *ℤ pos q)
product_jumps c d q h =
    let one = product_up c (c +ℤ pos 1) q 1 refl in
    let more = product_grows (c +ℤ pos 1) d q h in
    omega (arith, ints, one, more)

-- x is from minus half of q to half of q, and y is at least q below or above it
closer : (x y : ℤ) (q : ℕ) → (pos 2 *ℤ x) ≤ℤ pos q → pos 0 ≤ℤ (pos 2 *ℤ x +ℤ pos q) → ((y +ℤ pos q) ≤ℤ x) ⊎ ((x +ℤ pos q) ≤ℤ y) → unsigned_abs x ≤ unsigned_abs y
closer (pos x) (pos y) q a b (inl h) = omega (arith, ints, a, b, h)
closer (pos x) (negsuc y) q a b (inl h) = omega (arith, ints, a, b, h)
closer (negsuc x) (pos y) q a b (inl h) = omega (arith, ints, a, b, h)
closer (negsuc x) (negsuc y) q a b (inl h) = omega (arith, ints, a, b, h)
closer (pos x) (pos y) q a b (inr h) = omega (arith, ints, a, b, h)
closer (pos x) (negsuc y) q a b (inr h) = omega (arith, ints, a, b, h)
closer (negsuc x) (pos y) q a b (inr h) = omega (arith, ints, a, b, h)
closer (negsuc x) (negsuc y) q a b (inr h) = omega (arith, ints, a, b, h)

-- the quotient is nearest of all
pub quotient_nearest : (f c d : ℤ) (q : ℕ) → Rounds f q c → apart f q c ≤ apart f q d
unfolding apart
quotient_nearest f c d q r =
    let x = f -ℤ c *ℤ pos q in
    let y = f -ℤ d *ℤ pos q in
    let half : (pos 2 *ℤ x) ≤ℤ pos q = omega (arith, ints, r.high) in
    let minus_half : pos 0 ≤ℤ (pos 2 *ℤ x +ℤ pos q) = omega (arith, ints, r.low) in
    by_lt_z c d
    (λ h. let jump = product_jumps c d q (omega (arith, ints, h)) in closer x y q half minus_half (inl (omega (arith, ints, jump))))
    (λ h. by_lt_z d c
    (λ k. let jump = product_jumps d c q (omega (arith, ints, k)) in closer x y q half minus_half (inr (omega (arith, ints, jump))))
    (λ k. let same : c ≡ d = omega (arith, ints, h, k) in rw same (omega arith)))

-- numbers on one side of 0
farther_below : (x y : ℤ) → x ≤ℤ pos 0 → y ≤ℤ x → unsigned_abs x ≤ unsigned_abs y
farther_below (pos x) (pos y) h k = omega (arith, ints, h, k)
farther_below (pos x) (negsuc y) h k = omega (arith, ints, h, k)
farther_below (negsuc x) (pos y) h k = omega (arith, ints, h, k)
farther_below (negsuc x) (negsuc y) h k = omega (arith, ints, h, k)

farther_above : (x y : ℤ) → pos 0 ≤ℤ x → x ≤ℤ y → unsigned_abs x ≤ unsigned_abs y
farther_above (pos x) (pos y) h k = omega (arith, ints, h, k)
farther_above (pos x) (negsuc y) h k = omega (arith, ints, h, k)
farther_above (negsuc x) (pos y) h k = omega (arith, ints, h, k)
farther_above (negsuc x) (negsuc y) h k = omega (arith, ints, h, k)

-- of numbers above the quotient the least is nearest, and of those below it the greatest
pub least_nearest : (f c low d : ℤ) (q : ℕ) → Rounds f q c → (c +ℤ pos 1) ≤ℤ low → low ≤ℤ d → apart f q low ≤ apart f q d
unfolding apart
least_nearest f c low d q r h k =
    let jump = product_jumps c low q h in
    let more = product_grows low d q k in
    farther_below (f -ℤ low *ℤ pos q) (f -ℤ d *ℤ pos q) (omega (arith, ints, jump, r.high)) (omega (arith, ints, more))

pub greatest_nearest : (f c high d : ℤ) (q : ℕ) → Rounds f q c → (high +ℤ pos 1) ≤ℤ c → d ≤ℤ high → apart f q high ≤ apart f q d
unfolding apart
greatest_nearest f c high d q r h k =
    let jump = product_jumps high c q h in
    let more = product_grows d high q k in
    farther_above (f -ℤ high *ℤ pos q) (f -ℤ d *ℤ pos q) (omega (arith, ints, jump, r.low)) (omega (arith, ints, more))

-- the division of the code is such a quotient
euclid_parts : (a : ℤ) (k : ℕ) → 0 < k
    → (up (int_div_euclid a (pos k)) * k + down a ≤ down (int_div_euclid a (pos k)) * k + up a) × (down (int_div_euclid a (pos k)) * k + up a < up (int_div_euclid a (pos k)) * k + down a + k)
euclid_parts (pos a) k h = omega arith
euclid_parts (negsuc a) k h = omega arith

pub division_rounds : (f : ℤ) (q : ℕ) → 0 < q → Rounds f q (int_div_euclid (pos 2 *ℤ f +ℤ pos q) (pos (2 * q)))
division_rounds f q h =
    let c = int_div_euclid (pos 2 *ℤ f +ℤ pos q) (pos (2 * q)) in
    let parts = euclid_parts (pos 2 *ℤ f +ℤ pos q) (2 * q) (omega arith) in
    let product = product_is c (pos q) in
    record { low = omega (arith, ints, parts.0, product); high = omega (arith, ints, parts.1, product) }

-- that of a number within 8160 by 16 or more is small
pub quotient_small : (f c : ℤ) (q : ℕ) → Within 8160 f → 16 ≤ q → Rounds f q c → unsigned_abs c ≤ 510
quotient_small f c q within h r =
    by_lt_z (pos 510) c
    (λ above. (let more = product_grows (pos 511) c q (omega (arith, ints, above)) in let product = product_is (pos 511) (pos q) in absurd (omega (arith, ints, more, product, r.low, within.high))))
    (λ low. by_lt_z c (negsuc 509)
    (λ below. (let more = product_grows c (negsuc 510) q (omega (arith, ints, below)) in let product = product_is (negsuc 510) (pos q) in absurd (omega (arith, ints, more, product, r.high, within.low))))
    (λ high. omega (arith, ints, low, high)))

-- kept near a predictor it is nearest of the numbers there
pub kept_nearest : (f v p : ℤ) (q : ℕ) → Rounds f q v → IsNearest f q (p -ℤ most) (p +ℤ most) (nearest v p)
kept_nearest f v p q r = by_lt_z v (p -ℤ pos 580)
    (λ h. (let e : nearest v p ≡ p -ℤ pos 580 = omega (arith, ints, clamps, h) in
    rw e (record { least = λ d a b. least_nearest f v (p -ℤ pos 580) d q r (omega (arith, ints, h)) a })))
    (λ g. by_lt_z (p +ℤ pos 580) v
    (λ h. (let e : nearest v p ≡ p +ℤ pos 580 = omega (arith, ints, clamps, h) in
    rw e (record { least = λ d a b. greatest_nearest f v (p +ℤ pos 580) d q r (omega (arith, ints, h)) b })))
    (λ h. (let e : nearest v p ≡ v = omega (arith, ints, clamps, g, h) in
    rw e (record { least = λ d a b. quotient_nearest f v d q r }))))
