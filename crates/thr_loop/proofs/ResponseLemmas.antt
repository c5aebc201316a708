-- The response and its limit in numbers that aren't below 0. The functions on lines cite these.
use Rattle.std.proofs.Common.{◌≡◌, ℕ, ℤ, pos, negsuc, neg_ℤ, ◌+◌, ◌-◌, ◌*◌, ◌/◌, ◌<◌, ◌+ℤ◌, ◌-ℤ◌, min, arith}
use Rattle.std.specs.Int.{int_shr}
use Rattle.std.proofs.lemmas.Int.{ints}
use Rattle.thr_loop.specs.EdgeRule.{response, limited, byte_near, before_edge, behind_edge}

-- an eighth of a number from -2048 on, and 256
shifted : (z : ℤ) (m : ℕ) → pos m ≡ z +ℤ pos 2048 → pos (m / 8) ≡ int_shr z 3 +ℤ pos 256
shifted (pos a) m h = omega (arith, ints)
shifted (negsuc a) m h = omega (arith, ints)

pub response_is : (p0 p1 p2 p3 : ℕ) → p0 < 256 → p1 < 256 → p2 < 256 → p3 < 256 → pos ((p0 + 3 * p2 + 2052 - (3 * p1 + p3)) / 8) ≡ response p0 p1 p2 p3 +ℤ pos 256
unfolding response
response_is p0 p1 p2 p3 h0 h1 h2 h3 =
    shifted (pos p0 -ℤ pos (3 * p1) +ℤ pos (3 * p2) -ℤ pos p3 +ℤ pos 4) (p0 + 3 * p2 + 2052 - (3 * p1 + p3)) (omega (arith, ints))

-- the limit of a response that isn't below 0, and of one that is
limited_up : (l n : ℕ) → limited l (pos n) ≡ pos (min n (l + l - n))
unfolding limited
limited_up l n = grind (arith, ints)

limited_down : (l n : ℕ) → limited l (negsuc n) ≡ neg_ℤ (pos (min (n + 1) (l + l - (n + 1))))
unfolding limited
limited_down l n = grind (arith, ints)

gained : (p k : ℕ) → byte_near (pos p +ℤ pos k) ≡ min (p + k) 255
gained p k = grind (arith, ints)

lost : (p k : ℕ) → p < 256 → byte_near (pos p -ℤ pos k) ≡ p - k
lost p k h = grind (arith, ints)

before_from : (l raised p : ℕ) (z : ℤ) → p < 256 → pos raised ≡ z +ℤ pos 256
    → min (p + min (raised - 256) (l + l - (raised - 256))) 255 - min (256 - raised) (l + l - (256 - raised)) ≡ byte_near (pos p +ℤ limited l z)
before_from l raised p (pos n) h e =
    let r : raised ≡ n + 256 = omega (arith, ints) in
    rw (limited_up l n, gained p (min n (l + l - n))) (omega arith)
before_from l raised p (negsuc n) h e =
    let r : raised + (n + 1) ≡ 256 = omega (arith, ints) in
    let k : ℕ = min (n + 1) (l + l - (n + 1)) in
    let back : pos p +ℤ neg_ℤ (pos k) ≡ pos p -ℤ pos k = omega (arith, ints) in
    rw (limited_down l n, back, lost p k h) (omega arith)

behind_from : (l raised p : ℕ) (z : ℤ) → p < 256 → pos raised ≡ z +ℤ pos 256
    → min (p + min (256 - raised) (l + l - (256 - raised))) 255 - min (raised - 256) (l + l - (raised - 256)) ≡ byte_near (pos p -ℤ limited l z)
behind_from l raised p (pos n) h e =
    let r : raised ≡ n + 256 = omega (arith, ints) in
    rw (limited_up l n, lost p (min n (l + l - n)) h) (omega arith)
behind_from l raised p (negsuc n) h e =
    let r : raised + (n + 1) ≡ 256 = omega (arith, ints) in
    let k : ℕ = min (n + 1) (l + l - (n + 1)) in
    let back : pos p -ℤ neg_ℤ (pos k) ≡ pos p +ℤ pos k = omega (arith, ints) in
    rw (limited_down l n, back, gained p k) (omega arith)

pub before_is : (l raised p0 p1 p2 p3 : ℕ) → p1 < 256 → pos raised ≡ response p0 p1 p2 p3 +ℤ pos 256
    → min (p1 + min (raised - 256) (l + l - (raised - 256))) 255 - min (256 - raised) (l + l - (256 - raised)) ≡ before_edge l p0 p1 p2 p3
unfolding before_edge
before_is l raised p0 p1 p2 p3 h e = before_from l raised p1 (response p0 p1 p2 p3) h e

pub behind_is : (l raised p0 p1 p2 p3 : ℕ) → p2 < 256 → pos raised ≡ response p0 p1 p2 p3 +ℤ pos 256
    → min (p2 + min (256 - raised) (l + l - (256 - raised))) 255 - min (raised - 256) (l + l - (raised - 256)) ≡ behind_edge l p0 p1 p2 p3
unfolding behind_edge
behind_is l raised p0 p1 p2 p3 h e = behind_from l raised p2 (response p0 p1 p2 p3) h e
