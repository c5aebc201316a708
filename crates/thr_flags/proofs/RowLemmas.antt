-- In the flags of partly coded superblocks no more than 30 equal values stand in a row. The writer of the third string cites this.
use Rattle.std.proofs.Common.{arith, ◌≡◌, ◌∙◌, ◌+◌, ◌-◌, ◌<◌, ◌≤◌, ℕ, zero, suc, Bool, true, false, not, ◌&&◌, ◌||◌, List, [], ◌∷◌, ◌++◌, length, get_or, drop, sym, ap, refl, inl, inr}
use Rattle.std.specs.List.{All, list_any}
use Rattle.std.proofs.lemmas.Bool.{cases_lt, false≢true}
use Rattle.std.proofs.lemmas.List.{get_or-append-add, get_or_append_left, get_or-drop, get_or-replicate, get_or-take}
use Rattle.std.proofs.lemmas.List.Elements.{All-head, All-tail}
use Rattle.vid_geom.specs.Squares.{joined}
use Rattle.thr_flags.specs.RunStrings.{HasRunsUpTo}
use Rattle.thr_flags.specs.WrittenFlags.{is_partial, single_in}

-- two tests that both hold
both : (a b : Bool) → (a && b) ≡ true → (a ≡ true) × (b ≡ true)
both true b h = (refl, h)
both false b h = absurd (false≢true h)

-- a value that is not v stands in a list, or past its end
abbrev HasOther : List Bool → Bool → ℕ → Type 0
HasOther values v k = get_or values k (not v) ≡ not v

-- the first value that passes
any_at : (test : Bool → Bool) (values : List Bool) (v : Bool) → ((x : Bool) → test x ≡ true → x ≡ not v) → list_any test values ≡ true → (k : ℕ) × (k < length values) × HasOther values v k
any_at test [] v other h = absurd (false≢true h)
any_at test (x ∷ values) v other h = go (test x) refl h (λ i. any_at test values v other i)
  where
    go : (b : Bool) → test x ≡ b → (b || list_any test values) ≡ true → (list_any test values ≡ true → (k : ℕ) × (k < length values) × HasOther values v k)
        → (k : ℕ) × (k < length (x ∷ values)) × HasOther (x ∷ values) v k
    go true e i more = (0, omega arith, other x e)
    go false e i more = let found = more i in (suc found.0, omega (arith, found.1), found.2)

-- the superblock has another value than v
part_other : (part : List Bool) (v : Bool) → is_partial part ≡ true → (k : ℕ) × (k < length part) × HasOther part v k
unfolding is_partial
part_other part true h = any_at not part true (λ x. elim x as (λ x. not x ≡ true → x ≡ false) [ true ↦ λ e. absurd (false≢true e) | false ↦ λ e. refl ]) (both (list_any (λ x. x) part) (list_any not part) h).1
part_other part false h = any_at (λ x. x) part false (λ x e. e) (both (list_any (λ x. x) part) (list_any not part) h).0

-- among the first 16 values there is another than v
other_in_front : (parts : List (List Bool)) (v : Bool) → All (λ part. length part ≤ 16) parts → (k : ℕ) × (k < 16) × HasOther (single_in parts) v k
unfolding single_in joined
other_in_front [] v small = (0, omega arith, refl)
other_in_front (part ∷ parts) v small = go (is_partial part) refl (other_in_front parts v (All-tail (λ p. length p ≤ 16) part parts small))
  where
    go : (b : Bool) → is_partial part ≡ b → (k : ℕ) × (k < 16) × HasOther (single_in parts) v k → (k : ℕ) × (k < 16) × HasOther (single_in (part ∷ parts)) v k
    go true e more =
        let found = part_other part v e in
        let least : length part ≤ 16 = All-head (λ p. length p ≤ 16) part parts small in
        (found.0, omega (arith, found.1), rw e (get_or_append_left part (single_in parts) (not v) found.0 found.1 ∙ found.2))
    go false e more = rw e more

-- among any 31 values there is another than v
other_in_row : (parts : List (List Bool)) (v : Bool) (at : ℕ) → All (λ part. length part ≤ 16) parts → (k : ℕ) × (k < 31) × HasOther (single_in parts) v (at + k)
unfolding single_in joined
other_in_row [] v at small = (0, omega arith, refl)
other_in_row (part ∷ parts) v at small = go (is_partial part) refl (λ n. other_in_row parts v n others)
  where
    others : All (λ p. length p ≤ 16) parts
    others = All-tail (λ p. length p ≤ 16) part parts small

    least : length part ≤ 16
    least = All-head (λ p. length p ≤ 16) part parts small

    behind : (j k : ℕ) → at + j ≡ length part + k → HasOther (single_in parts) v k → HasOther (part ++ single_in parts) v (at + j)
    behind j k e h = rw e (get_or-append-add part (single_in parts) k (not v) ∙ h)

    inside : (at : ℕ) → at < length part → is_partial part ≡ true → (k : ℕ) × (k < 31) × HasOther (part ++ single_in parts) v (at + k)
    inside zero h e =
        let found = part_other part v e in
        let start : 0 + found.0 ≡ found.0 = omega arith in
        (found.0, omega (arith, found.1, least), rw start (get_or_append_left part (single_in parts) (not v) found.0 found.1 ∙ found.2))
    inside (suc at) h e =
        let found = other_in_front parts v others in
        let k : ℕ = length part + found.0 - suc at in
        let place : suc at + k ≡ length part + found.0 = omega arith in
        (k, omega (arith, found.1, least), rw place (get_or-append-add part (single_in parts) found.0 (not v) ∙ found.2))

    go : (b : Bool) → is_partial part ≡ b → ((n : ℕ) → (k : ℕ) × (k < 31) × HasOther (single_in parts) v (n + k)) → (k : ℕ) × (k < 31) × HasOther (single_in (part ∷ parts)) v (at + k)
    go false e more = rw e (more at)
    go true e more = rw e (elim (cases_lt at (length part)) [
      | inl h ↦ inside at h e
      | inr h ↦
          let found = more (at - length part) in
          (found.0, found.1, behind found.0 (at - length part + found.0) (omega arith) found.2)
    ])

no_other : (v : Bool) → v ≡ not v → ⊥
no_other true e = false≢true (sym e)
no_other false e = false≢true e

-- no more than 30 equal values stand in a row
pub rows_of_single : (parts : List (List Bool)) → All (λ part. length part ≤ 16) parts → HasRunsUpTo 30 (single_in parts)
rows_of_single parts small at v e =
    let found = other_in_row parts v at small in
    let same : v ≡ not v = sym (get_or-replicate 31 found.0 v (not v) found.1) ∙ ap (λ l. get_or l found.0 (not v)) (sym e) ∙ get_or-take 31 (drop at (single_in parts)) found.0 (not v) found.1 ∙ get_or-drop at (single_in parts) found.0 (not v) ∙ found.2 in
    no_other v same
