-- Numbers of an edit list: further digits make one no smaller. The reader of numbers cites these.
use Rattle.std.proofs.Common.{◌≡◌, ℕ, ◌+◌, ◌-◌, ◌*◌, ◌<◌, ◌≤◌, suc, false, List, [], ◌∷◌, length, drop, get_or, ap, sym, ◌∙◌, arith, drop-cons}
use Rattle.std.specs.Prelude.{fold, nat_le}
use Rattle.std.proofs.lemmas.Bool.{lt-leb}
use Rattle.cut_list.specs.Numbers.{decimal}

-- further digits make a number no smaller
grows : (v : ℕ) (digits : List ℕ) → v ≤ fold (λ value digit. 10 * value + (digit - 48)) v digits
grows v [] = omega arith
grows v (d ∷ digits) = omega (arith, grows (10 * v + (d - 48)) digits)

-- a number that is too great after some digits is too great
pub too_great : (v i d : ℕ) (digits : List ℕ) → i < length digits → fold (λ value digit. 10 * value + (digit - 48)) v (drop i digits) ≡ decimal digits → d ≡ get_or digits i 0
    → 2147483647 < 10 * v + (d - 48) → nat_le (decimal digits) 2147483647 ≡ false
too_great v i d digits inside so_far here over =
    let split : drop i digits ≡ d ∷ drop (suc i) digits = drop-cons digits i 0 inside ∙ ap (λ x. x ∷ drop (suc i) digits) (sym here) in
    let rest = rw split at so_far in
    lt-leb (decimal digits) 2147483647 (omega (arith, grows (10 * v + (d - 48)) (drop (suc i) digits), rest))
