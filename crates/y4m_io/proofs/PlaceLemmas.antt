-- The parts of a text, one by one. The readers of parts cite these.
use Rattle.std.proofs.Common.{◌≡◌, ◌∙◌, ℕ, suc, ◌+◌, ◌-◌, ◌<◌, ◌≤◌, Bool, true, false, cond, List, [], ◌∷◌, length, take, drop, Some, None, refl, ap, sym, arith, eqb}
use Rattle.std.specs.List.{onto_first, position_from}
use Rattle.y4m_io.specs.Places.{first_place, parts_of}

-- a first part, and the text behind its separator; places count from k
pub parts_some : (wanted k at : ℕ) (text : List ℕ) → position_from (λ c. eqb c wanted) k text ≡ Some at → (k ≤ at) × (parts_of wanted text ≡ take (at - k) text ∷ parts_of wanted (drop (at - k + 1) text))
parts_some wanted k at [] e = cc
parts_some wanted k at (c ∷ text) e = first (parts_some wanted (k + 1) at text) (eqb c wanted) e
  where
    first : (position_from (λ c. eqb c wanted) (k + 1) text ≡ Some at → (k + 1 ≤ at) × (parts_of wanted text ≡ take (at - (k + 1)) text ∷ parts_of wanted (drop (at - (k + 1) + 1) text)))
        → (b : Bool) → cond b (Some k) (position_from (λ c. eqb c wanted) (k + 1) text) ≡ Some at
        → (k ≤ at) × (cond b ([] ∷ parts_of wanted text) (onto_first c (parts_of wanted text)) ≡ take (at - k) (c ∷ text) ∷ parts_of wanted (drop (at - k + 1) (c ∷ text)))
    first behind true here =
        let same : k ≡ at = cc in
        let none : at - k ≡ 0 = omega arith in
        (omega arith, rw none refl)
    first behind false there =
        let later = behind there in
        let more : at - k ≡ suc (at - (k + 1)) = omega (arith, later.0) in
        let step : suc (at - (k + 1)) + 1 ≡ suc (at - (k + 1) + 1) = omega arith in
        (omega (arith, later.0), rw (more, step) (ap (onto_first c) later.1))

-- a last part
pub parts_none : (wanted k : ℕ) (text : List ℕ) → position_from (λ c. eqb c wanted) k text ≡ None → parts_of wanted text ≡ text ∷ []
parts_none wanted k [] e = refl
parts_none wanted k (c ∷ text) e = first (parts_none wanted (k + 1) text) (eqb c wanted) e
  where
    first : (position_from (λ c. eqb c wanted) (k + 1) text ≡ None → parts_of wanted text ≡ text ∷ [])
        → (b : Bool) → cond b (Some k) (position_from (λ c. eqb c wanted) (k + 1) text) ≡ None → cond b ([] ∷ parts_of wanted text) (onto_first c (parts_of wanted text)) ≡ (c ∷ text) ∷ []
    first behind true here = cc
    first behind false there = ap (onto_first c) (behind there)

-- the same of the whole text
pub first_of_parts : (wanted at : ℕ) (text : List ℕ) → Some at ≡ first_place wanted text → parts_of wanted text ≡ take at text ∷ parts_of wanted (drop (at + 1) text)
first_of_parts wanted at text e =
    let n : at - 0 ≡ at = omega arith in
    (parts_some wanted 0 at text (sym e)).1 ∙ ap (λ i. take i text ∷ parts_of wanted (drop (i + 1) text)) n

-- there is always a part
pub some_part : (wanted : ℕ) (text : List ℕ) → 0 < length (parts_of wanted text)
some_part wanted [] = omega arith
some_part wanted (c ∷ text) = some (eqb c wanted) (parts_of wanted text)
  where
    some : (b : Bool) (parts : List (List ℕ)) → 0 < length (cond b ([] ∷ parts) (onto_first c parts))
    some true parts = omega arith
    some false [] = omega arith
    some false (part ∷ parts) = omega arith
