-- The long division: it keeps sums, goes on step by step, and replaces bits in front by their remainder. The steps of the checksum cite these.
use Rattle.std.proofs.Common.{◌≡◌, ℕ, zero, suc, ◌+◌, ◌-◌, ◌^◌, ◌<◌, ◌≤◌, Bool, true, false, List, [], ◌∷◌, ◌++◌, length, length-append, refl, ap, sym, ◌∙◌, arith}
use Rattle.vid_base.specs.Bits.{bits_of, zeros, number}
use Rattle.vid_base.proofs.DigitLemmas.{length-digits, length-zeros, ap-two}
use Rattle.vid_base.proofs.NumberLemmas.{number-lt}
use Rattle.ogg_page.specs.Division.{sum_of, divide, divisor, remainder, blanked, checksum_of}
use Rattle.ogg_page.proofs.SumLemmas.{sum_comm, sum_assoc, sum_self, zeros-sum, length-sum, sum_swap, length-sum_right, sum_fronts}

length-divisor : length divisor ≡ 32
unfolding divisor
length-divisor = length-digits 32 _

-- the divisor taken twice is not taken
taken_twice : (xs ys : List Bool) → 32 ≤ length ys → sum_of (sum_of divisor xs) (sum_of divisor ys) ≡ sum_of xs ys
taken_twice xs ys h =
    sum_swap divisor xs divisor ys
    ∙ ap (λ t. sum_of t (sum_of xs ys)) (sum_self divisor)
    ∙ zeros-sum (length divisor) (sum_of xs ys) (omega (arith, length-divisor, length-sum_right xs ys))

-- the division of a sum
pub divide-sum : (n : ℕ) (xs ys : List Bool) → n + 32 ≤ length xs → n + 32 ≤ length ys → divide n (sum_of xs ys) ≡ sum_of (divide n xs) (divide n ys)
unfolding divide sum_of
divide-sum zero xs ys h k = refl
divide-sum (suc n) [] ys h k = absurd (omega arith)
divide-sum (suc n) (x ∷ xs) [] h k = absurd (omega arith)
divide-sum (suc n) (false ∷ xs) (false ∷ ys) h k = divide-sum n xs ys (omega arith) (omega arith)
divide-sum (suc n) (true ∷ xs) (false ∷ ys) h k =
    ap (divide n) (sym (sum_assoc divisor xs ys)) ∙ divide-sum n (sum_of divisor xs) ys (omega (arith, length-sum_right divisor xs)) (omega arith)
divide-sum (suc n) (false ∷ xs) (true ∷ ys) h k =
    ap (divide n) (sym (sum_assoc divisor xs ys) ∙ ap (λ t. sum_of t ys) (sum_comm divisor xs) ∙ sum_assoc xs divisor ys)
    ∙ divide-sum n xs (sum_of divisor ys) (omega arith) (omega (arith, length-sum_right divisor ys))
divide-sum (suc n) (true ∷ xs) (true ∷ ys) h k =
    ap (divide n) (sym (taken_twice xs ys (omega arith)))
    ∙ divide-sum n (sum_of divisor xs) (sum_of divisor ys) (omega (arith, length-sum_right divisor xs)) (omega (arith, length-sum_right divisor ys))

-- nothing is left of nothing
divide-nil : (n : ℕ) → divide n [] ≡ []
unfolding divide
divide-nil zero = refl
divide-nil (suc n) = refl

-- so many steps and then so many more
pub divide-add : (m n : ℕ) (xs : List Bool) → divide (m + n) xs ≡ divide n (divide m xs)
unfolding divide
divide-add zero n xs = let e : 0 + n ≡ n = omega arith in rw e refl
divide-add (suc m) n [] = let e : suc m + n ≡ suc (m + n) = omega arith in rw e (sym (divide-nil n))
divide-add (suc m) n (false ∷ xs) = let e : suc m + n ≡ suc (m + n) = omega arith in rw e (divide-add m n xs)
divide-add (suc m) n (true ∷ xs) = let e : suc m + n ≡ suc (m + n) = omega arith in rw e (divide-add m n (sum_of divisor xs))

-- nothing is taken from zeros
pub divide-zeros : (n : ℕ) (xs : List Bool) → divide n (zeros n ++ xs) ≡ xs
unfolding divide zeros
divide-zeros zero xs = refl
divide-zeros (suc n) xs = divide-zeros n xs

-- n bits before others are replaced by their remainder
pub divide-front : (n : ℕ) (ds xs : List Bool) → length ds ≡ n → 32 ≤ length xs → divide n (ds ++ xs) ≡ sum_of (divide n (ds ++ zeros 32)) xs
divide-front n ds xs h k =
    let apart : ds ++ xs ≡ sum_of (ds ++ zeros 32) (zeros n ++ xs) = sym (sum_fronts ds (zeros n) (zeros 32) xs (h ∙ sym (length-zeros n)) ∙ ap-two (λ a b. a ++ b) (sum_comm ds (zeros n) ∙ zeros-sum n ds (omega arith)) (zeros-sum 32 xs k)) in
    ap (divide n) apart
    ∙ divide-sum n (ds ++ zeros 32) (zeros n ++ xs) (omega (arith, length-append ds (zeros 32), length-zeros 32)) (omega (arith, length-append (zeros n) xs, length-zeros n))
    ∙ ap (sum_of (divide n (ds ++ zeros 32))) (divide-zeros n xs)

divide-length : (n : ℕ) (xs : List Bool) → n + 32 ≤ length xs → length (divide n xs) ≡ length xs - n
unfolding divide
divide-length zero xs h = omega arith
divide-length (suc n) [] h = absurd (omega arith)
divide-length (suc n) (false ∷ xs) h = omega (arith, divide-length n xs (omega arith))
divide-length (suc n) (true ∷ xs) h =
    let same = length-sum divisor xs (omega (arith, length-divisor)) in
    omega (arith, same, divide-length n (sum_of divisor xs) (omega (arith, same)))

remainder-length : (bits : List Bool) → length (remainder bits) ≡ 32
unfolding remainder
remainder-length bits = omega (arith, length-append bits (zeros 32), length-zeros 32, divide-length (length bits) (bits ++ zeros 32) (omega (arith, length-append bits (zeros 32), length-zeros 32)))

-- a checksum has 32 bits
pub checksum-lt : (page : List ℕ) → checksum_of page < 2 ^ 32
unfolding checksum_of number
checksum-lt page =
    let bits : List Bool = remainder (bits_of (blanked page)) in
    rw remainder-length at (number-lt bits)
