-- Rows whose trees hold all tokens: how they are found, and that tables among them hold every token. `Rows::new` and `tables_for`
-- cite these.
use Rattle.std.proofs.Common.{◌≡◌, ◌∙◌, ℕ, zero, suc, ◌+◌, ◌*◌, ◌<◌, Bool, true, false, cond, List, [], ◌∷◌, ◌++◌, length, get_or, refl, sym, ap, arith, zero-add}
use Rattle.std.specs.Prelude.{IsSome, nat_lt}
use Rattle.std.specs.List.{All, Contains, filter, range_with_len}
use Rattle.std.proofs.Math.Dec.{eqb}
use Rattle.std.proofs.lemmas.List.Elements.{All-contains, All-filter, filter-append, filter_passes}
use Rattle.std.proofs.lemmas.List.{append-nil}
use Rattle.std.proofs.lemmas.List.FromFn.{get_or-range_with_len, length-range_with_len}
use Rattle.thr_huff.specs.CodeTree.{CodeTree}
use Rattle.thr_huff.specs.Codes.{codes_at, code_of}
use Rattle.thr_huff.specs.Rows.{IsFullRow, is_full_row}
use Rattle.thr_huff.proofs.RowLemmas.{full_row_is, is_full_row_of}
use Rattle.thr_token.specs.declared.token.Token.{Token}
use Rattle.thr_token.specs.declared.token.Tables.{Tables}
use Rattle.thr_token.specs.Coefficients.{TableNumbers, group_of}
use Rattle.thr_token.specs.Tokenised.{IsToken}
use Rattle.thr_token.specs.WrittenTokens.{Dc, Ac, IsHeld, code_for, numbers_of}
use Rattle.enc_packet.specs.FullRows.{AreAmong, full_rows}

-- one number more is counted
counting : (a n : ℕ) → range_with_len a (suc n) ≡ range_with_len a n ++ (a + n) ∷ []
counting a zero = let e : a ≡ a + 0 = omega arith in ap (λ k. k ∷ []) e
counting a (suc n) = let e : a + 1 + n ≡ a + suc n = omega arith in ap (λ xs. a ∷ xs) (counting (a + 1) n ∙ ap (λ k. range_with_len (a + 1) n ++ k ∷ []) e)

-- and is kept where it passes
pub rows_more : (p : ℕ → Bool) (n : ℕ) → filter p (range_with_len 0 (n + 1)) ≡ filter p (range_with_len 0 n) ++ cond (p n) (n ∷ []) []
rows_more p n =
    let on : n + 1 ≡ suc n = omega arith in
    ap (λ k. filter p (range_with_len 0 k)) on
    ∙ ap (filter p) (counting 0 n ∙ ap (λ k. range_with_len 0 n ++ k ∷ []) (zero-add n))
    ∙ filter-append p (range_with_len 0 n) (n ∷ [])

-- they are below 16
pub rows_small : (forest : List CodeTree) → All (λ number. number < 16) (full_rows forest)
unfolding full_rows
rows_small forest =
    All-filter (λ number. is_full_row forest number) (λ number. number < 16) (range_with_len 0 16)
    (λ k d lt. rw (get_or-range_with_len 0 16 k d (omega (arith, length-range_with_len 0 16))) (omega (arith, length-range_with_len 0 16)))

-- a number that passes a test is kept
kept : (p : ℕ → Bool) (xs : List ℕ) (x : ℕ) → Contains xs x → p x ≡ true → 0 < length (filter p xs)
kept p [] x has passes = absurd (omega (arith, has.1))
kept p (y ∷ xs) x has passes = go (p y) refl has.0 has.1 has.2 (λ has. kept p xs x has passes)
  where
    go : (b : Bool) → p y ≡ b → (k : ℕ) → k < length (y ∷ xs) → get_or (y ∷ xs) k x ≡ x → (Contains xs x → 0 < length (filter p xs)) → 0 < length (cond b (y ∷ filter p xs) (filter p xs))
    go true e k lt at others = omega arith
    go false e zero lt at others = let same : p x ≡ false = sym (ap p at) ∙ e in cc
    go false e (suc k) lt at others = others (k, omega arith, at)

-- where one row is full there are some
pub rows_some : (forest : List CodeTree) (number : ℕ) → number < 16 → IsFullRow forest number → 0 < length (full_rows forest)
unfolding full_rows
rows_some forest number lt full =
    kept (λ number. is_full_row forest number) (range_with_len 0 16) number
    (number, omega (arith, length-range_with_len 0 16), get_or-range_with_len 0 16 number number lt ∙ zero-add number)
    (is_full_row_of forest number full)

-- each of them is full
pub row_is_full : (forest : List CodeTree) (number : ℕ) → Contains (full_rows forest) number → (number < 16) × IsFullRow forest number
unfolding full_rows
row_is_full forest number has = (
  All-contains (λ number. number < 16) (full_rows forest) number (rows_small forest) has,
  full_row_is forest number (All-contains (λ number. is_full_row forest number ≡ true) (full_rows forest) number (filter_passes (λ number. is_full_row forest number) (range_with_len 0 16)) has),
)

-- there are five groups
few_groups : (place : ℕ) → group_of place < 5
few_groups place = go (eqb place 0) (nat_lt place 6) (nat_lt place 15) (nat_lt place 28)
  where
    go : (a b c d : Bool) → cond a 0 (cond b 1 (cond c 2 (cond d 3 4))) < 5
    go true b c d = omega arith
    go false true c d = omega arith
    go false false true d = omega arith
    go false false false true = omega arith
    go false false false false = omega arith

-- two full rows hold a token
held_by : (forest : List CodeTree) (numbers : TableNumbers) (token : Token) → IsFullRow forest numbers.luma → IsFullRow forest numbers.chroma → IsToken token → IsSome (code_for forest numbers token)
held_by forest numbers token luma chroma is = go token.luma
  where
    held : (number : ℕ) → IsFullRow forest number → IsSome (code_of (codes_at forest (16 * group_of token.place + number)) token.token)
    held number full = full (group_of token.place) (few_groups token.place) token.token is.number

    go : (of : Bool) → IsSome (code_of (codes_at forest (16 * group_of token.place + cond of numbers.luma numbers.chroma)) token.token)
    go true = held numbers.luma luma
    go false = held numbers.chroma chroma

-- tables among the full rows hold each token
pub held_by_rows : (forest : List CodeTree) (tables : Tables) → AreAmong (full_rows forest) tables → (token : Token) → IsToken token → IsHeld forest tables token
held_by_rows forest tables among token is = go (eqb token.place 0)
  where
    full : (number : ℕ) → Contains (full_rows forest) number → IsFullRow forest number
    full number has = (row_is_full forest number has).1

    go : (dc : Bool) → IsSome (code_for forest (cond dc (numbers_of tables Dc) (numbers_of tables Ac)) token)
    go true = held_by forest (numbers_of tables Dc) token (full tables.luma_dc among.luma_dc) (full tables.chroma_dc among.chroma_dc) is
    go false = held_by forest (numbers_of tables Ac) token (full tables.luma_ac among.luma_ac) (full tables.chroma_ac among.chroma_ac) is

-- a step of the loop over all numbers: one whose row is full is pushed, and another is left
pub row_kept : (forest : List CodeTree) (n : ℕ) (numbers next : List ℕ) (full : Bool) → full ≡ true → full ≡ is_full_row forest n → numbers ≡ filter (λ number. is_full_row forest number) (range_with_len 0 n)
    → next ≡ numbers ++ n ∷ [] → next ≡ filter (λ number. is_full_row forest number) (range_with_len 0 (n + 1))
row_kept forest n numbers next full passes is same pushed = pushed ∙ ap (λ xs. xs ++ n ∷ []) same ∙ sym (rows_more (λ number. is_full_row forest number) n ∙ ap (λ b. filter (λ number. is_full_row forest number) (range_with_len 0 n) ++ cond b (n ∷ []) []) (sym is ∙ passes))

pub row_left : (forest : List CodeTree) (n : ℕ) (numbers : List ℕ) (full : Bool) → full ≡ false → full ≡ is_full_row forest n → numbers ≡ filter (λ number. is_full_row forest number) (range_with_len 0 n)
    → numbers ≡ filter (λ number. is_full_row forest number) (range_with_len 0 (n + 1))
row_left forest n numbers full fails is same = same ∙ sym (rows_more (λ number. is_full_row forest number) n ∙ ap (λ b. filter (λ number. is_full_row forest number) (range_with_len 0 n) ++ cond b (n ∷ []) []) (sym is ∙ fails) ∙ append-nil (filter (λ number. is_full_row forest number) (range_with_len 0 n)))
