-- The sum of polynomials over bits: a monoid in which each polynomial is its own opposite, and the digits of an exclusive or. The division cites these.
use Rattle.std.proofs.Common.{◌≡◌, ℕ, zero, suc, ◌+◌, ◌%◌, ◌<◌, ◌≤◌, ◌⊎◌, inl, inr, Bool, true, false, nat_eq, List, [], ◌∷◌, ◌++◌, length, bit_xor, refl, ap, sym, ◌∙◌, arith}
use Rattle.std.proofs.lemmas.Nat.Bits.{bit_at_xor, bit_at-lt}
use Rattle.std.specs.Int.{bit_at}
use Rattle.vid_base.specs.Bits.{bit_of, digits, zeros}
use Rattle.vid_base.proofs.DigitLemmas.{ap-two}
use Rattle.ogg_page.specs.Division.{sum_of, xor_bit}

xor_comm : (a b : Bool) → xor_bit a b ≡ xor_bit b a
xor_comm true true = refl
xor_comm true false = refl
xor_comm false true = refl
xor_comm false false = refl

xor_assoc : (a b c : Bool) → xor_bit (xor_bit a b) c ≡ xor_bit a (xor_bit b c)
xor_assoc true true true = refl
xor_assoc true true false = refl
xor_assoc true false true = refl
xor_assoc true false false = refl
xor_assoc false true true = refl
xor_assoc false true false = refl
xor_assoc false false true = refl
xor_assoc false false false = refl

-- the order of two does not count
pub sum_comm : (xs ys : List Bool) → sum_of xs ys ≡ sum_of ys xs
unfolding sum_of
sum_comm [] [] = refl
sum_comm [] (y ∷ ys) = refl
sum_comm (x ∷ xs) [] = refl
sum_comm (x ∷ xs) (y ∷ ys) = ap-two (λ b bs. b ∷ bs) (xor_comm x y) (sum_comm xs ys)

-- nor does the grouping of three
pub sum_assoc : (xs ys zs : List Bool) → sum_of (sum_of xs ys) zs ≡ sum_of xs (sum_of ys zs)
unfolding sum_of
sum_assoc [] ys zs = refl
sum_assoc (x ∷ xs) [] [] = refl
sum_assoc (x ∷ xs) [] (z ∷ zs) = refl
sum_assoc (x ∷ xs) (y ∷ ys) [] = refl
sum_assoc (x ∷ xs) (y ∷ ys) (z ∷ zs) = ap-two (λ b bs. b ∷ bs) (xor_assoc x y z) (sum_assoc xs ys zs)

-- the longer of two is as long as the sum
pub length-sum : (xs ys : List Bool) → length xs ≤ length ys → length (sum_of xs ys) ≡ length ys
unfolding sum_of
length-sum [] ys h = refl
length-sum (x ∷ xs) [] h = absurd (omega arith)
length-sum (x ∷ xs) (y ∷ ys) h = omega (arith, length-sum xs ys (omega arith))

-- zeros add nothing
pub zeros-sum : (n : ℕ) (ys : List Bool) → n ≤ length ys → sum_of (zeros n) ys ≡ ys
unfolding sum_of zeros
zeros-sum zero ys h = refl
zeros-sum (suc n) [] h = absurd (omega arith)
zeros-sum (suc n) (y ∷ ys) h = ap (λ bs. y ∷ bs) (zeros-sum n ys (omega arith))

-- a polynomial is its own opposite
pub sum_self : (xs : List Bool) → sum_of xs xs ≡ zeros (length xs)
unfolding sum_of zeros
sum_self [] = refl
sum_self (true ∷ xs) = ap (λ bs. false ∷ bs) (sum_self xs)
sum_self (false ∷ xs) = ap (λ bs. false ∷ bs) (sum_self xs)

-- sums of fronts of one length, and of what follows them
pub sum_fronts : (xs ys us vs : List Bool) → length xs ≡ length ys → sum_of (xs ++ us) (ys ++ vs) ≡ sum_of xs ys ++ sum_of us vs
unfolding sum_of
sum_fronts [] [] us vs h = refl
sum_fronts [] (y ∷ ys) us vs h = absurd (omega arith)
sum_fronts (x ∷ xs) [] us vs h = absurd (omega arith)
sum_fronts (x ∷ xs) (y ∷ ys) us vs h = ap (λ bs. xor_bit x y ∷ bs) (sum_fronts xs ys us vs (omega arith))

-- two parts change places in a sum of four
pub sum_swap : (a b c d : List Bool) → sum_of (sum_of a b) (sum_of c d) ≡ sum_of (sum_of a c) (sum_of b d)
sum_swap a b c d =
    sum_assoc a b (sum_of c d) ∙ ap (sum_of a) (sym (sum_assoc b c d) ∙ ap (λ t. sum_of t d) (sum_comm b c) ∙ sum_assoc c b d)
    ∙ sym (sum_assoc a c (sum_of b d))

-- a sum is at least as long as its second part
pub length-sum_right : (xs ys : List Bool) → length ys ≤ length (sum_of xs ys)
unfolding sum_of
length-sum_right [] ys = omega arith
length-sum_right (x ∷ xs) [] = omega arith
length-sum_right (x ∷ xs) (y ∷ ys) = omega (arith, length-sum_right xs ys)

-- zeros at the end add nothing
pub padded-sum : (xs ys : List Bool) (k : ℕ) → length xs + k ≤ length ys → sum_of (xs ++ zeros k) ys ≡ sum_of xs ys
unfolding sum_of
padded-sum [] ys k h = zeros-sum k ys (omega arith)
padded-sum (x ∷ xs) [] k h = absurd (omega arith)
padded-sum (x ∷ xs) (y ∷ ys) k h = ap (λ bs. xor_bit x y ∷ bs) (padded-sum xs ys k (omega arith))

below_two : (n : ℕ) → n < 2 → (n ≡ 0) ⊎ (n ≡ 1)
below_two zero h = inl refl
below_two (suc zero) h = inr refl
below_two (suc (suc n)) h = absurd (omega arith)

-- one digit of an exclusive or
xor_digits : (m n : ℕ) → m < 2 → n < 2 → nat_eq ((m + n) % 2) 1 ≡ xor_bit (nat_eq m 1) (nat_eq n 1)
xor_digits m n h k = elim (below_two m h) [
  | inl e ↦ elim (below_two n k) [ inl f ↦ rw (e, f) refl | inr f ↦ rw (e, f) refl ]
  | inr e ↦ elim (below_two n k) [ inl f ↦ rw (e, f) refl | inr f ↦ rw (e, f) refl ]
]

-- the digits of an exclusive or are the sum of the digits
pub digits-xor : (n a b : ℕ) → digits n (bit_xor a b) ≡ sum_of (digits n a) (digits n b)
unfolding digits sum_of
digits-xor zero a b = refl
digits-xor (suc n) a b =
    let head : bit_of n (bit_xor a b) ≡ xor_bit (bit_of n a) (bit_of n b) = ap (λ k. nat_eq k 1) (bit_at_xor a b n) ∙ xor_digits (bit_at a n) (bit_at b n) (bit_at-lt a n) (bit_at-lt b n) in
    rw (head, digits-xor n a b) refl
