-- The bits that vectors are written as, one block or macro block behind the other. The writer of vectors cites these.
use Rattle.std.proofs.Common.{◌≡◌, ◌∙◌, ℕ, suc, ◌+◌, ◌<◌, ◌≤◌, Bool, false, cond, List, [], ◌∷◌, ◌++◌, length, map, drop, get_or, Some, slice_get, ap, sym, arith, append_assoc}
use Rattle.std.proofs.lemmas.List.{append-nil, drop_all}
use Rattle.std.proofs.Math.Seq.{drop-cons}
use Rattle.vid_base.specs.declared.shape.Shape.{Shape}
use Rattle.thr_modes.specs.Vectors.{Offset, still}
use Rattle.thr_modes.specs.WrittenVectors.{vector_code, own_codes, motion_code, motions_code, luma_vectors, macro_vectors}
use Rattle.thr_modes.proofs.EachLemmas.{drop_at}
use Rattle.thr_modes.proofs.LumaLemmas.{AreLuma, luma_at}

-- one block more
pub own_more : (luma : List Bool) (vectors : List Offset) (b : ℕ) (v : Offset) (old now new all : List Bool) → b < length luma → b < length vectors → get_or vectors b v ≡ v → new ≡ now ++ cond (get_or luma b false) (vector_code v) []
    → now ++ own_codes (drop b luma) (drop b vectors) ≡ old ++ all → new ++ own_codes (drop (b + 1) luma) (drop (b + 1) vectors) ≡ old ++ all
unfolding own_codes
own_more luma vectors b v old now new all h within is e inv =
    let next : suc b ≡ b + 1 = omega arith in
    let first : drop b luma ≡ get_or luma b false ∷ drop (b + 1) luma = drop-cons luma b false h ∙ ap (λ k. get_or luma b false ∷ drop k luma) next in
    let second : drop b vectors ≡ v ∷ drop (b + 1) vectors = drop-cons vectors b v within ∙ ap (λ k. get_or vectors b v ∷ drop k vectors) next ∙ ap (λ u. u ∷ drop (b + 1) vectors) is in
    let whole = rw (first, second) at inv in
    rw e (append_assoc now (cond (get_or luma b false) (vector_code v) []) (own_codes (drop (b + 1) luma) (drop (b + 1) vectors)) ∙ whole)

-- no block more
pub own_all : (luma : List Bool) (vectors : List Offset) (b : ℕ) (old now all : List Bool) → length luma ≤ b → now ++ own_codes (drop b luma) (drop b vectors) ≡ old ++ all → now ≡ old ++ all
unfolding own_codes
own_all luma vectors b old now all h inv =
    let whole = rw (drop_all b luma h) at inv in sym (append-nil now) ∙ whole

-- one macro block more
pub motions_code_more : (modes : List ℕ) (lumas : List (List Bool)) (motions : List (List Offset)) (m : ℕ) (luma : List Bool) (vectors : List Offset) (old now new all : List Bool) → m < length modes → slice_get lumas m ≡ Some luma → slice_get motions m ≡ Some vectors
    → new ≡ now ++ motion_code (get_or modes m 0) luma vectors → now ++ motions_code (drop m modes) (drop m lumas) (drop m motions) ≡ old ++ all → new ++ motions_code (drop (m + 1) modes) (drop (m + 1) lumas) (drop (m + 1) motions) ≡ old ++ all
unfolding motions_code
motions_code_more modes lumas motions m luma vectors old now new all h a b e inv =
    let next : suc m ≡ m + 1 = omega arith in
    let first : drop m modes ≡ get_or modes m 0 ∷ drop (m + 1) modes = drop-cons modes m 0 h ∙ ap (λ k. get_or modes m 0 ∷ drop k modes) next in
    let whole = rw (first, drop_at lumas m luma a, drop_at motions m vectors b) at inv in
    rw e (append_assoc now (motion_code (get_or modes m 0) luma vectors) (motions_code (drop (m + 1) modes) (drop (m + 1) lumas) (drop (m + 1) motions)) ∙ whole)

-- no macro block more
pub motions_code_all : (modes : List ℕ) (lumas : List (List Bool)) (motions : List (List Offset)) (m : ℕ) (old now all : List Bool) → length modes ≤ m → now ++ motions_code (drop m modes) (drop m lumas) (drop m motions) ≡ old ++ all → now ≡ old ++ all
unfolding motions_code
motions_code_all modes lumas motions m old now all h inv =
    let whole = rw (drop_all m modes h) at inv in sym (append-nil now) ∙ whole

-- the vectors at the places of the luma blocks
pub luma_vectors_at : (s : Shape) (vectors : List Offset) (m : ℕ) (places : List ℕ) → AreLuma s m places → slice_get (macro_vectors s vectors) m ≡ Some (map (λ place. get_or vectors place still) places)
unfolding macro_vectors luma_vectors
luma_vectors_at s vectors m places h = luma_at s m places (λ place. get_or vectors place still) h
