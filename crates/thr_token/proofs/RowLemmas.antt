-- Tables of one number, whose trees hold all tokens. `full_rows_hold_all_tokens` cites this, and so do the layers above.
use Rattle.std.proofs.Common.{◌≡◌, ℕ, ◌+◌, ◌*◌, ◌<◌, Bool, true, false, cond, List, refl, sym, subst, arith}
use Rattle.std.specs.Prelude.{IsSome, nat_lt}
use Rattle.std.proofs.Math.Dec.{eqb}
use Rattle.thr_huff.specs.CodeTree.{CodeTree}
use Rattle.thr_huff.specs.Codes.{codes_at, code_of}
use Rattle.thr_huff.specs.Rows.{IsFullRow}
use Rattle.thr_token.specs.declared.token.Token.{Token}
use Rattle.thr_token.specs.Coefficients.{TableNumbers, group_of}
use Rattle.thr_token.specs.Tokenised.{IsToken}
use Rattle.thr_token.specs.WrittenTokens.{Dc, Ac, IsHeld, code_for, numbers_of, same_tables}

-- there are five groups
few_groups : (place : ℕ) → group_of place < 5
few_groups place = go (eqb place 0) (nat_lt place 6) (nat_lt place 15) (nat_lt place 28)
  where
    go : (a b c d : Bool) → cond a 0 (cond b 1 (cond c 2 (cond d 3 4))) < 5
    go true b c d = omega arith
    go false true c d = omega arith
    go false false true d = omega arith
    go false false false true = omega arith
    go false false false false = omega arith

pub held_by_row : (forest : List CodeTree) (number : ℕ) (token : Token) → IsFullRow forest number → IsToken token → IsHeld forest (same_tables number) token
held_by_row forest number token full is =
    subst (λ numbers. IsSome (code_for forest numbers token)) (sym (numbers_are (eqb token.place 0)))
    (subst (λ tree. IsSome (code_of (codes_at forest tree) token.token)) (sym (tree_is token.luma)) (full (group_of token.place) (few_groups token.place) token.token is.number))
  where
    numbers : TableNumbers
    numbers = record { luma = number; chroma = number }

    numbers_are : (dc : Bool) → cond dc (numbers_of (same_tables number) Dc) (numbers_of (same_tables number) Ac) ≡ numbers
    numbers_are true = refl
    numbers_are false = refl

    tree_is : (luma : Bool) → 16 * group_of token.place + cond luma number number ≡ 16 * group_of token.place + number
    tree_is true = refl
    tree_is false = refl
