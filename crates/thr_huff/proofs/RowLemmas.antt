-- Full rows of a forest: what the tests say, in the words of the contract. `Forest::full_row` cites these.
use Rattle.std.proofs.Common.{◌≡◌, ◌<◌, ◌≤◌, ◌+◌, ◌*◌, ℕ, zero, suc, Bool, true, false, cond, List, Option, Some, None, MatchOption, IfSome, IfNone, refl, subst, sym, ◌∙◌, arith, inl, inr, get_or}
use Rattle.std.proofs.lemmas.Bool.{cases_lt}
use Rattle.std.specs.Prelude.{is_some}
use Rattle.std.specs.List.{range_with_len, find, list_all}
use Rattle.std.proofs.lemmas.List.FromFn.{length-range_with_len, get_or-range_with_len}
use Rattle.std.proofs.lemmas.List.Sums.{AllPass-from_list_all, list_all-from_AllPass}
use Rattle.thr_huff.specs.CodeTree.{CodeTree}
use Rattle.thr_huff.specs.Codes.{codes_at, code_of}
use Rattle.thr_huff.specs.Rows.{IsFullRow, has_all_tokens, is_full_row, full_row_of}

-- a test of all numbers below n, both ways
all_below : (p : ℕ → Bool) (n : ℕ) → list_all p (range_with_len 0 n) ≡ true → (k : ℕ) → k < n → p k ≡ true
all_below p n e k lt =
    let at : get_or (range_with_len 0 n) k 0 ≡ k = get_or-range_with_len 0 n k 0 lt ∙ omega arith in
    subst (λ i. p i ≡ true) at (AllPass-from_list_all p (range_with_len 0 n) e k 0 (omega (arith, length-range_with_len 0 n)))

below_all : (p : ℕ → Bool) (n : ℕ) → ((k : ℕ) → k < n → p k ≡ true) → list_all p (range_with_len 0 n) ≡ true
below_all p n h =
    list_all-from_AllPass p (range_with_len 0 n) (λ k d lt.
    let less : k < n = omega (arith, length-range_with_len 0 n) in
    let at : get_or (range_with_len 0 n) k d ≡ k = get_or-range_with_len 0 n k d less ∙ omega arith in
    subst (λ i. p i ≡ true) (sym at) (h k less))

-- the first number from a on that passes
abbrev First : (ℕ → Bool) → ℕ → ℕ → Option ℕ → Type 0
First p a n r = MatchOption r ((k : ℕ) → a ≤ k → k < a + n → p k ≡ false) (λ i. (a ≤ i) × (i < a + n) × (p i ≡ true) × ((k : ℕ) → a ≤ k → k < i → p k ≡ false))

from_next : (p : ℕ → Bool) (a n : ℕ) (r : Option ℕ) → p a ≡ false → First p (a + 1) n r → First p a (suc n) r
from_next p a n None fails h = λ k low high. elim (cases_lt a k) [ inl more ↦ h k (omega arith) (omega arith) | inr same ↦ let e : a ≡ k = omega arith in subst (λ i. p i ≡ false) e fails ]
from_next p a n (Some i) fails h = (
  omega (arith, h.0),
  omega (arith, h.1),
  h.2,
  λ k low lt. elim (cases_lt a k) [ inl more ↦ h.3 k (omega arith) lt | inr same ↦ let e : a ≡ k = omega arith in subst (λ i. p i ≡ false) e fails ],
)

first_in : (p : ℕ → Bool) (a n : ℕ) → First p a n (find p (range_with_len a n))
first_in p a zero = λ k low high. absurd (omega arith)
first_in p a (suc n) = go (p a) refl (first_in p (a + 1) n)
  where
    go : (b : Bool) → p a ≡ b → First p (a + 1) n (find p (range_with_len (a + 1) n)) → First p a (suc n) (cond b (Some a) (find p (range_with_len (a + 1) n)))
    go true e h = (omega arith, omega arith, e, λ k low lt. absurd (omega arith))
    go false e h = from_next p a n (find p (range_with_len (a + 1) n)) e h

-- the test of a row says what a full row is
pub full_row_is : (forest : List CodeTree) (number : ℕ) → is_full_row forest number ≡ true → IsFullRow forest number
unfolding is_full_row has_all_tokens
full_row_is forest number e group lt token below =
    all_below (λ t. is_some (code_of (codes_at forest (16 * group + number)) t)) 32 (all_below (λ g. has_all_tokens (codes_at forest (16 * g + number))) 5 e group lt) token below

pub is_full_row_of : (forest : List CodeTree) (number : ℕ) → IsFullRow forest number → is_full_row forest number ≡ true
unfolding is_full_row has_all_tokens
is_full_row_of forest number full =
    below_all (λ g. has_all_tokens (codes_at forest (16 * g + number))) 5 (λ group lt.
    below_all (λ t. is_some (code_of (codes_at forest (16 * group + number)) t)) 32 (λ token below. full group lt token below))

not_full : (forest : List CodeTree) (number : ℕ) → is_full_row forest number ≡ false → ¬ (IsFullRow forest number)
not_full forest number e full =
    let passed : is_full_row forest number ≡ true = is_full_row_of forest number full in
    cc

-- the row that is found is full, and the least one; where none is found, none is full
abbrev pub IsLeastFull : List CodeTree → Option ℕ → Type 0
IsLeastFull forest row = MatchOption row ((number : ℕ) → number < 16 → ¬ (IsFullRow forest number)) (λ number. (number < 16) × IsFullRow forest number × ((k : ℕ) → k < number → ¬ (IsFullRow forest k)))

pub least_full : (forest : List CodeTree) → IsLeastFull forest (full_row_of forest)
unfolding full_row_of
least_full forest = go (find (λ number. is_full_row forest number) (range_with_len 0 16)) (first_in (λ number. is_full_row forest number) 0 16)
  where
    go : (row : Option ℕ) → First (λ number. is_full_row forest number) 0 16 row → IsLeastFull forest row
    go None h = λ number lt. not_full forest number (h number (omega arith) lt)
    go (Some number) h = (h.1, full_row_is forest number h.2, λ k lt. not_full forest k (h.3 k (omega arith) lt))

pub full_in : (forest : List CodeTree) (row : Option ℕ) → row ≡ full_row_of forest → IfSome row (λ number. (number < 16) × IsFullRow forest number)
full_in forest row e = go row (subst (IsLeastFull forest) (sym e) (least_full forest))
  where
    go : (r : Option ℕ) → IsLeastFull forest r → IfSome r (λ number. (number < 16) × IsFullRow forest number)
    go None h = tt
    go (Some number) h = (h.0, h.1)

pub least_in : (forest : List CodeTree) (row : Option ℕ) → row ≡ full_row_of forest → IfSome row (λ number. (k : ℕ) → k < number → ¬ (IsFullRow forest k))
least_in forest row e = go row (subst (IsLeastFull forest) (sym e) (least_full forest))
  where
    go : (r : Option ℕ) → IsLeastFull forest r → IfSome r (λ number. (k : ℕ) → k < number → ¬ (IsFullRow forest k))
    go None h = tt
    go (Some number) h = h.2

pub none_in : (forest : List CodeTree) (row : Option ℕ) → row ≡ full_row_of forest → IfNone row ((number : ℕ) → number < 16 → ¬ (IsFullRow forest number))
none_in forest row e = go row (subst (IsLeastFull forest) (sym e) (least_full forest))
  where
    go : (r : Option ℕ) → IsLeastFull forest r → IfNone r ((number : ℕ) → number < 16 → ¬ (IsFullRow forest number))
    go None h = h
    go (Some number) h = tt
