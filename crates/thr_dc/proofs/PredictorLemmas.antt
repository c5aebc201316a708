-- How large a predictor is, from how large the values around it are. The bodies and the laws of limits cite these.
use Rattle.std.proofs.Common.{◌≡◌, ℕ, ◌+◌, ◌≤◌, ℤ, pos, ◌+ℤ◌, ◌-ℤ◌, ◌*ℤ◌, Bool, true, false, cond, Option, Some, None, IfSome, int_div, unsigned_abs, refl, arith}
use Rattle.std.proofs.lemmas.Int.{ints}
use Rattle.std.proofs.lemmas.Bool.Decides.{nat_tests}
use Rattle.thr_dc.specs.Predictor.{extended, far, from_neighbours}

-- a value that is not far from another is at most 128 larger
pub not_far : (p d : ℤ) (n : ℕ) → unsigned_abs d ≤ n → far p d ≡ false → unsigned_abs p ≤ n + 128
unfolding far
not_far p d n h e =
    let near : unsigned_abs (p -ℤ d) ≤ 128 = grind (arith, nat_tests) in
    omega (arith, ints)

extended_within : (l dl d : ℤ) (n : ℕ) → unsigned_abs l ≤ n → unsigned_abs dl ≤ n → unsigned_abs d ≤ n → unsigned_abs (extended l dl d) ≤ n + 128
unfolding extended
extended_within l dl d n h i j = go (int_div (pos 29 *ℤ l -ℤ pos 26 *ℤ dl +ℤ pos 29 *ℤ d) (pos 32)) (far (int_div (pos 29 *ℤ l -ℤ pos 26 *ℤ dl +ℤ pos 29 *ℤ d) (pos 32)) d) refl (far (int_div (pos 29 *ℤ l -ℤ pos 26 *ℤ dl +ℤ pos 29 *ℤ d) (pos 32)) l) (far (int_div (pos 29 *ℤ l -ℤ pos 26 *ℤ dl +ℤ pos 29 *ℤ d) (pos 32)) dl)
  where
    go : (p : ℤ) (a : Bool) → far p d ≡ a → (b c : Bool) → unsigned_abs (cond a d (cond b l (cond c dl p))) ≤ n + 128
    go p true e b c = omega arith
    go p false e true c = omega arith
    go p false e false true = omega arith
    go p false e false false = not_far p d n j e

pub mean_below_within : (dl d dr : ℤ) (n : ℕ) → unsigned_abs dl ≤ n → unsigned_abs d ≤ n → unsigned_abs dr ≤ n → unsigned_abs (int_div (pos 3 *ℤ dl +ℤ pos 10 *ℤ d +ℤ pos 3 *ℤ dr) (pos 16)) ≤ n + 128
mean_below_within dl d dr n h i j = omega (arith, ints)

-- where the values are at most n, the predictor is at most n + 128
pub predictor_within : (l dl d dr : Option ℤ) (n : ℕ) → IfSome l (λ v. unsigned_abs v ≤ n) → IfSome dl (λ v. unsigned_abs v ≤ n) → IfSome d (λ v. unsigned_abs v ≤ n) → IfSome dr (λ v. unsigned_abs v ≤ n)
    → IfSome (from_neighbours l dl d dr) (λ p. unsigned_abs p ≤ n + 128)
predictor_within None None None None n hl hdl hd hdr = tt
predictor_within None None None (Some dr) n hl hdl hd hdr = omega arith
predictor_within None None (Some d) None n hl hdl hd hdr = omega arith
predictor_within None None (Some d) (Some dr) n hl hdl hd hdr = omega arith
predictor_within None (Some dl) None None n hl hdl hd hdr = omega arith
predictor_within None (Some dl) None (Some dr) n hl hdl hd hdr = omega (arith, ints)
predictor_within None (Some dl) (Some d) None n hl hdl hd hdr = omega arith
predictor_within None (Some dl) (Some d) (Some dr) n hl hdl hd hdr = mean_below_within dl d dr n hdl hd hdr
predictor_within (Some l) None None None n hl hdl hd hdr = omega arith
predictor_within (Some l) None None (Some dr) n hl hdl hd hdr = omega (arith, ints)
predictor_within (Some l) None (Some d) None n hl hdl hd hdr = omega (arith, ints)
predictor_within (Some l) None (Some d) (Some dr) n hl hdl hd hdr = omega (arith, ints)
predictor_within (Some l) (Some dl) None None n hl hdl hd hdr = omega arith
predictor_within (Some l) (Some dl) None (Some dr) n hl hdl hd hdr = omega (arith, ints)
predictor_within (Some l) (Some dl) (Some d) None n hl hdl hd hdr = extended_within l dl d n hl hdl hd
predictor_within (Some l) (Some dl) (Some d) (Some dr) n hl hdl hd hdr = extended_within l dl d n hl hdl hd
