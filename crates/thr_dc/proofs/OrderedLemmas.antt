-- What holds of a frame where only DC values changed, and of blocks that are made one by one. The laws cite these, and so do the
-- layers above.
use Rattle.std.proofs.Common.{◌≡◌, ◌∙◌, ℕ, zero, suc, ◌<◌, ◌≤◌, ℤ, pos, Bool, true, false, List, [], ◌∷◌, ◌++◌, length, get_or, take, Option, None, All, unsigned_abs, refl, sym, ap, subst, inl, inr, arith}
use Rattle.std.proofs.lemmas.Bool.{cases_lt}
use Rattle.std.proofs.lemmas.List.{append_assoc, append-nil, get_or_default, get_or_past}
use Rattle.std.proofs.lemmas.List.Elements.{All-set}
use Rattle.thr_token.specs.Tokenised.{AreBlank}
use Rattle.thr_dc.specs.Blocks.{Coded}
use Rattle.thr_dc.specs.Frames.{ChangesDc, IsWithin}
use Rattle.thr_dc.specs.Prediction.{by_new, changed}

uncoded_at : (flags : List Bool) (b : ℕ) → get_or flags b true ≡ false → get_or flags b false ≡ false
uncoded_at [] b h = refl
uncoded_at (flag ∷ flags) zero h = h
uncoded_at (flag ∷ flags) (suc b) h = uncoded_at flags b h

-- blank blocks stay blank
pub still_blank : (flags : List Bool) (old new : List (List ℤ)) → ChangesDc flags old new → AreBlank flags old → AreBlank flags new
still_blank flags old new changes blank = λ b no. changes.uncoded b (uncoded_at flags b no) ∙ blank b no

abbrev AtMost : ℕ → ℤ → Type 0
AtMost n v = unsigned_abs v ≤ n

-- bounds stay
pub still_bounded : (n : ℕ) (flags : List Bool) (old new : List (List ℤ)) → ChangesDc flags old new → All (All (λ v. unsigned_abs v ≤ n)) old → IsWithin n flags new → All (All (λ v. unsigned_abs v ≤ n)) new
still_bounded n flags old new changes small within place d h =
    subst (All (AtMost n)) (get_or_default new place [] d h) (go (get_or flags place false) refl)
  where
    was : All (AtMost n) (get_or old place [])
    was = small place [] (omega (arith, changes.long))

    go : (flag : Bool) → get_or flags place false ≡ flag → All (AtMost n) (get_or new place [])
    go true e = subst (All (AtMost n)) (sym (changes.only_dc place)) (All-set (AtMost n) (get_or old place []) 0 (get_or (get_or new place []) 0 (pos 0)) (within place e) was)
    go false e = subst (All (AtMost n)) (sym (changes.uncoded place e)) was

first_bounded : (n : ℕ) (block : List ℤ) → All (AtMost n) block → unsigned_abs (get_or block 0 (pos 0)) ≤ n
first_bounded n [] small = omega arith
first_bounded n (v ∷ block) small = small 0 (pos 0) (omega arith)

-- bounds on all values are bounds on the DC values
pub all_within : (n : ℕ) (flags : List Bool) (values : List (List ℤ)) → All (All (λ v. unsigned_abs v ≤ n)) values → IsWithin n flags values
all_within n flags values small place e = elim (cases_lt place (length values)) [
  | inl within ↦ first_bounded n (get_or values place []) (small place [] within)
  | inr past ↦ rw (get_or_past values place [] past) (omega arith)
]

made_at : (f : ℤ → ℤ → ℤ) (w : ℕ) (before blocks : List (Option Coded)) (place : ℕ) → place < length blocks
    → get_or (by_new f w before blocks) place None ≡ changed f w (before ++ take place (by_new f w before blocks)) (get_or blocks place None)
unfolding by_new
made_at f w before [] place h = absurd (omega arith)
made_at f w before (block ∷ blocks) zero h = ap (λ front. changed f w front block) (sym (append-nil before))
made_at f w before (block ∷ blocks) (suc place) h =
    let new : Option Coded = changed f w before block in
    let rest : List (Option Coded) = by_new f w (before ++ new ∷ []) blocks in
    made_at f w (before ++ new ∷ []) blocks place (omega arith)
    ∙ ap (λ front. changed f w front (get_or blocks place None)) (append_assoc before (new ∷ []) (take place rest))

-- each block is made from what was made of those before it
pub by_new_at : (f : ℤ → ℤ → ℤ) (w : ℕ) (blocks : List (Option Coded)) (place : ℕ) → place < length blocks
    → get_or (by_new f w [] blocks) place None ≡ changed f w (take place (by_new f w [] blocks)) (get_or blocks place None)
by_new_at f w blocks place h = made_at f w [] blocks place h
