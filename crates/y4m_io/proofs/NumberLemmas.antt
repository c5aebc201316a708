-- The numbers of a head: one that is too great stays so. The reader of numbers cites these.
use Rattle.std.proofs.Common.{◌≡◌, ◌≢◌, ◌∙◌, None, ℕ, suc, ◌+◌, ◌-◌, ◌*◌, ◌<◌, ◌≤◌, List, [], ◌∷◌, length, drop, get_or, inl, inr, refl, ap, sym, arith, drop-cons}
use Rattle.std.specs.Prelude.{fold, min}
use Rattle.std.proofs.lemmas.Bool.{cases_lt}
use Rattle.y4m_io.specs.Numbers.{ratio_in}

-- further digits make a number no smaller
grows : (v : ℕ) (digits : List ℕ) → v ≤ fold (λ value digit. 10 * value + (digit - 48)) v digits
grows v [] = omega arith
grows v (d ∷ digits) = omega (arith, grows (10 * v + (d - 48)) digits)

-- a number so far may be cut to the bound
cut_so_far : (most v : ℕ) (digits : List ℕ) → min (fold (λ value digit. 10 * value + (digit - 48)) (min v most) digits) most ≡ min (fold (λ value digit. 10 * value + (digit - 48)) v digits) most
cut_so_far most v digits = elim (cases_lt most v) [
  | inl great ↦ (let m : min v most ≡ most = omega arith in rw m (omega (arith, grows most digits, grows v digits)))
  | inr small ↦ (let m : min v most ≡ v = omega arith in rw m refl)
]

-- one digit more
pub digit_more : (most v new i d : ℕ) (digits : List ℕ) (all : ℕ) → i < length digits → d ≡ get_or digits i 0 → new ≡ min (10 * v + (d - 48)) most
    → min (fold (λ value digit. 10 * value + (digit - 48)) v (drop i digits)) most ≡ all → min (fold (λ value digit. 10 * value + (digit - 48)) new (drop (suc i) digits)) most ≡ all
digit_more most v new i d digits all inside here is so_far =
    let split : drop i digits ≡ d ∷ drop (suc i) digits = drop-cons digits i 0 inside ∙ ap (λ x. x ∷ drop (suc i) digits) (sym here) in
    let rest = rw split at so_far in
    rw is (cut_so_far most (10 * v + (d - 48)) (drop (suc i) digits) ∙ rest)

-- what has not two parts is no ratio
pub ratio_in-none : (least most : ℕ) (parts : List (List ℕ)) → length parts ≢ 2 → ratio_in least most parts ≡ None
ratio_in-none least most [] other = refl
ratio_in-none least most (n ∷ []) other = refl
ratio_in-none least most (n ∷ d ∷ []) other = absurd (other refl)
ratio_in-none least most (n ∷ d ∷ e ∷ parts) other = refl
