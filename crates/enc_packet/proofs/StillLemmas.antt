-- No motion may be chosen for a frame of which all macro blocks have mode 0. The tests cite this.
use Rattle.std.proofs.Common.{◌≡◌, ◌∙◌, ℕ, zero, suc, Bool, List, [], ◌∷◌, ◌++◌, length, get_or, map, replicate, refl, ap, sym, arith}
use Rattle.std.specs.List.{All, flat_map}
use Rattle.std.proofs.lemmas.List.Elements.{All-append, All-head, All-replicate, All-tail}
use Rattle.vid_base.specs.declared.shape.Shape.{Shape}
use Rattle.vid_geom.specs.CodedOrder.{order_of}
use Rattle.vid_geom.specs.MacroBlocks.{macro_blocks}
use Rattle.vid_geom.proofs.ListLemmas.{All-flat_map}
use Rattle.thr_modes.specs.Chosen.{AreChosen, AreChosenFrom, IsChosen, IsVector, memory_behind, motion_for}
use Rattle.thr_modes.specs.LumaFlags.{macro_flags}
use Rattle.thr_modes.specs.Vectors.{Offset, still}
use Rattle.thr_modes.specs.Motion.{Memory, Motion, block_vectors, by_block, chroma_count, empty, same_motion}
use Rattle.thr_modes.proofs.FoldLemmas.{four_flags}
use Rattle.thr_modes.proofs.LumaLemmas.{flags_long}

-- for a macro block
one_still : (pf : ℕ) (luma : List Bool) (memory : Memory) → length luma ≡ 4 → IsChosen pf 0 luma memory (same_motion pf still)
unfolding motion_for same_motion
one_still pf luma memory four = record {
  long = sym four;
  small = All-replicate IsVector 4 still ((omega arith, omega arith), (omega arith, omega arith));
  allowed = refl;
  uncoded = λ e. absurd (omega arith);
}

-- and for macro blocks one behind the other
all_still : (pf n : ℕ) (lumas : List (List Bool)) (memory : Memory) → length lumas ≡ n → All (λ luma. length luma ≡ 4) lumas → AreChosenFrom pf (replicate n 0) lumas memory (replicate n (same_motion pf still))
unfolding memory_behind
all_still pf zero [] memory long four = tt
all_still pf zero (luma ∷ lumas) memory long four = absurd (omega arith)
all_still pf (suc n) [] memory long four = absurd (omega arith)
all_still pf (suc n) (luma ∷ lumas) memory long four =
    (one_still pf luma memory (All-head (λ luma. length luma ≡ 4) luma lumas four), all_still pf n lumas memory (omega arith) (All-tail (λ luma. length luma ≡ 4) luma lumas four))

-- then no block moves
at_still : (vectors : List Offset) (k : ℕ) → All (λ v. v ≡ still) vectors → get_or vectors k still ≡ still
at_still [] k all = refl
at_still (v ∷ vectors) zero all = All-head (λ v. v ≡ still) v vectors all
at_still (v ∷ vectors) (suc k) all = at_still vectors k (All-tail (λ v. v ≡ still) v vectors all)

map_still : {X : Type 0} (f : X → Offset) (xs : List X) → ((x : X) → f x ≡ still) → map f xs ≡ replicate (length xs) still
map_still f [] same = refl
map_still f (x ∷ xs) same = ap (λ v. v ∷ map f xs) (same x) ∙ ap (λ vs. still ∷ vs) (map_still f xs same)

motion_still : (pf : ℕ) → All (λ v. v ≡ still) (block_vectors (same_motion pf still))
unfolding block_vectors same_motion
motion_still pf =
    let P : Offset → Type 0 = λ v. v ≡ still in
    let chroma : All P (replicate (chroma_count pf) still) = All-replicate P (chroma_count pf) still refl in
    All-append P (replicate 4 still ++ replicate (chroma_count pf) still) (replicate (chroma_count pf) still) (All-append P (replicate 4 still) (replicate (chroma_count pf) still) (All-replicate P 4 still refl) chroma) chroma

by_still : (s : Shape) (n : ℕ) → by_block s (replicate n (same_motion s.pf still)) ≡ replicate (length (order_of s)) still
unfolding by_block
by_still s n =
    let motions : List Motion = replicate n (same_motion s.pf still) in
    map_still _ (order_of s) (λ b. at_still (flat_map block_vectors motions) _ (All-flat_map (λ v. v ≡ still) block_vectors motions (All-replicate (λ motion. All (λ v. v ≡ still) (block_vectors motion)) n (same_motion s.pf still) (motion_still s.pf))))

pub still_chosen : (s : Shape) (flags : List Bool) (modes : List ℕ) (vectors : List Offset) → modes ≡ replicate (length (macro_blocks s)) 0 → vectors ≡ replicate (length (order_of s)) still → AreChosen s flags modes vectors
still_chosen s flags modes vectors zeros stills =
    let n : ℕ = length (macro_blocks s) in
    rw (zeros, stills) (replicate n (same_motion s.pf still), all_still s.pf n (macro_flags s flags) empty (flags_long s flags) (four_flags s flags), sym (by_still s n))
