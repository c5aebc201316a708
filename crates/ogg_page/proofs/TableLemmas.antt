-- The tables meet their rules, by computation: the first holds what is left of each byte, and each further one what is left of the entries before with a byte of 0 behind them. The steps of the checksum cite these.
use Rattle.std.proofs.Common.{◌≡◌, ℕ, zero, suc, ◌+◌, ◌*◌, ◌/◌, ◌%◌, ◌^◌, ◌<◌, Bool, true, false, not, ◌&&◌, List, [], ◌∷◌, ◌++◌, length, get_or, bit_xor, nat_lt, ◌==◌, refl, ap, sym, ◌∙◌, subst, arith}
use Rattle.std.proofs.lemmas.Bool.{eqb-true, ltb-true}
use Rattle.std.specs.Int.Bits.{xor_zero_l, xor_zero_r}
use Rattle.vid_base.specs.Bits.{digits, zeros}
use Rattle.ogg_page.specs.Division.{divide, divisor, sum_of, xor_bit, GoesOn, zero_bytes}
use Rattle.ogg_page.specs.declared.table.TheConstants.{TABLES}
use Rattle.ogg_page.proofs.StepLemmas.{GoesOn-byte, GoesOn-append}

-- the test of two lists of bits for being equal
abbrev same_bits : List Bool → List Bool → Bool
same_bits [] [] = true
same_bits (x ∷ xs) (y ∷ ys) = not (xor_bit x y) && same_bits xs ys
same_bits _ _ = false

-- each entry from i on is what the division leaves of its number
abbrev are_remainders : ℕ → List ℕ → Bool
are_remainders i [] = true
are_remainders i (t ∷ ts) = same_bits (divide 8 (digits 8 i ++ zeros 32)) (digits 32 t) && are_remainders (i + 1) ts

-- each entry of the next table follows from the entry before, by one step with a byte of 0
abbrev are_next : List ℕ → List ℕ → List ℕ → Bool
are_next table [] [] = true
are_next table (t ∷ ts) (s ∷ ss) = nat_lt (t / 2 ^ 24) 256 && (bit_xor (t * 2 ^ 8 % 2 ^ 32) (get_or table (t / 2 ^ 24) 0) == s) && are_next table ts ss
are_next table _ _ = false

-- each table follows from the one before
abbrev are_chained : List ℕ → List (List ℕ) → Bool
are_chained table [] = true
are_chained table (ts ∷ []) = true
are_chained table (ts ∷ ss ∷ more) = are_next table ts ss && are_chained table (ss ∷ more)

abbrev table_at : ℕ → List ℕ
table_at k = get_or TABLES k []

first_passes : are_remainders 0 (table_at 0) ≡ true
unfolding digits divide zeros divisor sum_of
first_passes = refl

chain_passes : are_chained (table_at 0) TABLES ≡ true
chain_passes = refl

same_from_test : (xs ys : List Bool) → same_bits xs ys ≡ true → xs ≡ ys
same_from_test [] [] h = refl
same_from_test [] (y ∷ ys) h = cc
same_from_test (x ∷ xs) [] h = cc
same_from_test (true ∷ xs) (true ∷ ys) h = ap (λ bs. true ∷ bs) (same_from_test xs ys h)
same_from_test (false ∷ xs) (false ∷ ys) h = ap (λ bs. false ∷ bs) (same_from_test xs ys h)
same_from_test (true ∷ xs) (false ∷ ys) h = cc
same_from_test (false ∷ xs) (true ∷ ys) h = cc

first : (a b : Bool) → a && b ≡ true → a ≡ true
first true b h = refl
first false b h = h

second : (a b : Bool) → a && b ≡ true → b ≡ true
second true b h = h
second false b h = cc

-- the test of the first table, at one entry
remainder_at : (i : ℕ) (ts : List ℕ) (k : ℕ) → are_remainders i ts ≡ true → k < length ts → divide 8 (digits 8 (i + k) ++ zeros 32) ≡ digits 32 (get_or ts k 0)
remainder_at i [] k h lt = absurd (omega arith)
remainder_at i (t ∷ ts) zero h lt = let e : i + 0 ≡ i = omega arith in rw e (same_from_test _ _ (first _ _ h))
remainder_at i (t ∷ ts) (suc k) h lt = let e : i + suc k ≡ i + 1 + k = omega arith in rw e (remainder_at (i + 1) ts k (second _ _ h) (omega arith))

-- the test of a next table, at one entry
record IsNext (table ts ss : List ℕ) (i : ℕ) : Type 0 where
  small : get_or ts i 0 / 2 ^ 24 < 256
  value : bit_xor (get_or ts i 0 * 2 ^ 8 % 2 ^ 32) (get_or table (get_or ts i 0 / 2 ^ 24) 0) ≡ get_or ss i 0

next_at : (table ts ss : List ℕ) (i : ℕ) → are_next table ts ss ≡ true → i < length ts → IsNext table ts ss i
next_at table [] ss i h lt = absurd (omega arith)
next_at table (t ∷ ts) [] i h lt = cc
next_at table (t ∷ ts) (s ∷ ss) zero h lt =
    let both = first _ _ h in record { small = ltb-true (t / 2 ^ 24) 256 (first _ _ both); value = eqb-true _ s (second _ _ both) }
next_at table (t ∷ ts) (s ∷ ss) (suc i) h lt = let next = next_at table ts ss i (second _ _ h) (omega arith) in record { small = next.small; value = next.value }

next_length : (table ts ss : List ℕ) → are_next table ts ss ≡ true → length ts ≡ length ss
next_length table [] [] h = refl
next_length table [] (s ∷ ss) h = cc
next_length table (t ∷ ts) [] h = cc
next_length table (t ∷ ts) (s ∷ ss) h = ap (λ n. suc n) (next_length table ts ss (second _ _ h))

-- two tables of the chain
chain_at : (table : List ℕ) (tables : List (List ℕ)) (k : ℕ) → are_chained table tables ≡ true → suc k < length tables → are_next table (get_or tables k []) (get_or tables (suc k) []) ≡ true
chain_at table [] k h lt = absurd (omega arith)
chain_at table (ts ∷ []) k h lt = absurd (omega arith)
chain_at table (ts ∷ ss ∷ more) zero h lt = first _ _ h
chain_at table (ts ∷ ss ∷ more) (suc k) h lt = chain_at table (ss ∷ more) k (second _ _ h) (omega arith)

table_length : (k : ℕ) → k < 8 → length (table_at k) ≡ 256
table_length zero h = refl
table_length (suc k) h = sym (next_length (table_at 0) (table_at k) (table_at (suc k)) (chain_at (table_at 0) TABLES k chain_passes h)) ∙ table_length k (omega arith)

-- an entry of the first table
pub first_entry : (i : ℕ) → i < 256 → divide 8 (digits 8 i ++ zeros 32) ≡ digits 32 (get_or (table_at 0) i 0)
first_entry i h = let e : 0 + i ≡ i = omega arith in rw e at (remainder_at 0 (table_at 0) i first_passes h)

zero_bytes-more : (k : ℕ) → zero_bytes k ++ (0 ∷ []) ≡ zero_bytes (suc k)
unfolding zero_bytes
zero_bytes-more zero = refl
zero_bytes-more (suc k) = ap (λ bs. 0 ∷ bs) (zero_bytes-more k)

-- an entry is what is left of its number with so many bytes of 0 behind it
pub entry : (k i : ℕ) → k < 8 → i < 256 → GoesOn 0 (i ∷ zero_bytes k) (get_or (table_at k) i 0)
unfolding zero_bytes
entry zero i h lt =
    let t : ℕ = get_or (table_at 0) i 0 in
    let whole : bit_xor (0 * 2 ^ 8 % 2 ^ 32) t ≡ t = xor_zero_l t in
    let alone : bit_xor (0 / 2 ^ 24) i ≡ i = xor_zero_l i in
    subst (GoesOn 0 (i ∷ [])) whole (GoesOn-byte 0 i t (rw alone (first_entry i lt)))
entry (suc k) i h lt =
    let t : ℕ = get_or (table_at k) i 0 in
    let next = next_at (table_at 0) (table_at k) (table_at (suc k)) i (chain_at (table_at 0) TABLES k chain_passes h) (omega (arith, table_length k (omega arith))) in
    let s : ℕ = get_or (table_at 0) (t / 2 ^ 24) 0 in
    let step : GoesOn t (0 ∷ []) (get_or (table_at (suc k)) i 0) =
    subst (GoesOn t (0 ∷ [])) next.value (GoesOn-byte t 0 s (rw xor_zero_r (first_entry (t / 2 ^ 24) next.small))) in
    subst (λ bs. GoesOn 0 (i ∷ bs) (get_or (table_at (suc k)) i 0)) (zero_bytes-more k) (GoesOn-append 0 t (get_or (table_at (suc k)) i 0) (i ∷ zero_bytes k) (0 ∷ []) (entry k i (omega arith) lt) step)
