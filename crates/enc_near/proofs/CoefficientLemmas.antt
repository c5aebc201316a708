-- The coefficients of a block, made one after another in zigzag order. `coefficients` cites these.
use Rattle.std.proofs.Common.{◌≡◌, ◌∙◌, ℕ, ℤ, pos, ◌+◌, ◌<◌, ◌≤◌, unsigned_abs, List, length, get_or, set, replicate, inl, inr, subst, refl, arith, length-set}
use Rattle.std.specs.List.{All}
use Rattle.std.proofs.lemmas.Bool.{cases_lt}
use Rattle.std.proofs.lemmas.List.{get_or-set_same, get_or-set_other}
use Rattle.std.proofs.lemmas.List.Elements.{All-replicate, All-set}
use Rattle.thr_dct.specs.Line.{entry}
use Rattle.thr_recon.specs.Residual.{zigzag}
use Rattle.enc_near.specs.Made.{AreMade, natural}
use Rattle.enc_near.specs.Near.{IsNearest, fewest, most}
use Rattle.enc_near.specs.Rounds.{Rounds}
use Rattle.enc_near.proofs.ZigzagLemmas.{natural_of_zigzag, zigzag_behind, zigzag_below}

-- a coefficient is small
abbrev pub IsSmall : ℤ → Type 0
IsSmall v = unsigned_abs v ≤ 580

-- one at a place of the zigzag order is nearest
abbrev pub IsNearestAt : List ℤ → List ℕ → ℕ → ℤ → Type 0
IsNearestAt f m z v = IsNearest (entry f (get_or natural z 0)) (get_or m (get_or natural z 0) 0) fewest most v

-- those before z are made
pub record AreFirstMade (f : List ℤ) (m : List ℕ) (z : ℕ) (out : List ℤ) : Type 0 where
  pub long : length out ≡ 64
  pub first : Rounds (entry f 0) (get_or m 0 0) (entry out 0)
  pub others : (i : ℕ) → 0 < i → i < z → IsNearestAt f m i (entry out i)
  pub small : All IsSmall out

pub one_made : (f : List ℤ) (m : List ℕ) (v : ℤ) → Rounds (entry f 0) (get_or m 0 0) v → IsSmall v → AreFirstMade f m 1 (set (replicate 64 (pos 0)) 0 v)
one_made f m v rounds small = record {
  long = refl;
  first = rounds;
  others = λ i some below. absurd (omega arith);
  small = All-set IsSmall (replicate 64 (pos 0)) 0 v small (All-replicate IsSmall 64 (pos 0) (omega arith));
}

pub more_made : (f : List ℤ) (m : List ℕ) (z : ℕ) (out : List ℤ) (v : ℤ) → 0 < z → z < 64 → IsNearestAt f m z v → IsSmall v → AreFirstMade f m z out → AreFirstMade f m (z + 1) (set out z v)
more_made f m z out v some below nearest small made = record {
  long = length-set out z v ∙ made.long;
  first = rw (get_or-set_other out z 0 v (pos 0) (λ e. omega arith)) made.first;
  others = λ i behind before. elim (cases_lt i z) as (λ _. IsNearestAt f m i (entry (set out z v) i)) [
    | inl earlier ↦ rw (get_or-set_other out z i v (pos 0) (λ e. omega arith)) (made.others i behind earlier)
    | inr here ↦ (let same : z ≡ i = omega arith in subst (λ k. IsNearestAt f m k (entry (set out z v) k)) same (rw (get_or-set_same out z v (pos 0) (omega (arith, made.long))) nearest))
  ];
  small = All-set IsSmall out z v small made.small;
}

pub all_made : (f : List ℤ) (m : List ℕ) (z : ℕ) (out : List ℤ) → 64 ≤ z → AreFirstMade f m z out → AreMade f m out
all_made f m z out past made = record {
  long = made.long;
  first = made.first;
  others = λ k some below. (let P : ℕ → Type 0 = λ n. IsNearest (entry f n) (get_or m n 0) fewest most (entry out (get_or zigzag k 0)) in
      let within = zigzag_below k below in
      subst P (natural_of_zigzag k below) (made.others (get_or zigzag k 0) (zigzag_behind k some below) (omega arith)));
  small = made.small;
}
