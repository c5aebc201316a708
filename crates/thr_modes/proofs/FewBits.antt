-- How many bits modes and vectors are written as at most. The writers cite these.
use Rattle.std.proofs.Common.{◌≡◌, ℕ, ◌+◌, ◌*◌, ◌≤◌, ◌==◌, ◌||◌, Bool, true, false, cond, List, [], ◌∷◌, ◌++◌, length, length-append, get_or, ap, arith}
use Rattle.std.specs.Int.{is_negative}
use Rattle.std.specs.Int.RustNames.{unsigned_abs}
use Rattle.std.specs.List.{All}
use Rattle.std.proofs.lemmas.List.Elements.{All-head, All-tail}
use Rattle.vid_base.specs.declared.shape.Shape.{Shape}
use Rattle.vid_base.specs.Bits.{digits}
use Rattle.vid_base.proofs.DigitLemmas.{length-digits}
use Rattle.vid_geom.specs.MacroBlocks.{macro_blocks}
use Rattle.thr_modes.specs.LumaFlags.{macro_flags, some_coded}
use Rattle.thr_modes.specs.Vectors.{Offset, still}
use Rattle.thr_modes.specs.Written.{mode_code, modes_code}
use Rattle.thr_modes.specs.WrittenVectors.{component_code, motion_code, motions_code, own_codes, vector_code}
use Rattle.thr_modes.proofs.FoldLemmas.{four_flags}
use Rattle.thr_modes.proofs.LumaLemmas.{flags_long}

-- a mode has 3 bits
length-mode_code : (luma : List Bool) (mode : ℕ) → length (mode_code luma mode) ≤ 3
unfolding mode_code
length-mode_code luma mode = go (some_coded luma)
  where
    go : (coded : Bool) → length (cond coded (digits 3 mode) []) ≤ 3
    go true = omega (arith, length-digits 3 mode)
    go false = omega arith

length-modes_code : (lumas : List (List Bool)) (modes : List ℕ) → length (modes_code lumas modes) ≤ 3 * length lumas
unfolding modes_code
length-modes_code [] modes = omega arith
length-modes_code (luma ∷ lumas) [] = omega arith
length-modes_code (luma ∷ lumas) (mode ∷ modes) = omega (arith, length-append (mode_code luma mode) (modes_code lumas modes), length-mode_code luma mode, length-modes_code lumas modes)

pub modes_few : (s : Shape) (flags : List Bool) (modes : List ℕ) (old now new : List Bool) → now ≡ old ++ digits 3 7 → new ≡ now ++ modes_code (macro_flags s flags) modes → length new ≤ length old + (3 + 3 * length (macro_blocks s))
modes_few s flags modes old now new a b =
    omega (arith, ap length a, ap length b, length-append old (digits 3 7), length-digits 3 7, length-append now (modes_code (macro_flags s flags) modes), length-modes_code (macro_flags s flags) modes, flags_long s flags)

-- a vector has 12
length-vector_code : (v : Offset) → length (vector_code v) ≡ 12
unfolding vector_code component_code
length-vector_code v =
    omega (
      arith,
      length-append (component_code v.x) (component_code v.y),
      length-append (digits 5 (unsigned_abs v.x)) (is_negative v.x ∷ []),
      length-append (digits 5 (unsigned_abs v.y)) (is_negative v.y ∷ []),
      length-digits 5 (unsigned_abs v.x),
      length-digits 5 (unsigned_abs v.y),
    )

length-own_codes : (luma : List Bool) (vectors : List Offset) → length (own_codes luma vectors) ≤ 12 * length luma
unfolding own_codes
length-own_codes [] vectors = omega arith
length-own_codes (coded ∷ luma) [] = omega arith
length-own_codes (true ∷ luma) (v ∷ vectors) = omega (arith, length-append (vector_code v) (own_codes luma vectors), length-vector_code v, length-own_codes luma vectors)
length-own_codes (false ∷ luma) (v ∷ vectors) = omega (arith, length-own_codes luma vectors)

-- a macro block has four at most
length-motion_code : (mode : ℕ) (luma : List Bool) (vectors : List Offset) → length luma ≡ 4 → length (motion_code mode luma vectors) ≤ 48
unfolding motion_code
length-motion_code mode luma vectors four = go (mode == 2 || mode == 6) (mode == 7)
  where
    go : (one own : Bool) → length (cond one (vector_code (get_or vectors 0 still)) (cond own (own_codes luma vectors) [])) ≤ 48
    go true own = omega (arith, length-vector_code (get_or vectors 0 still))
    go false true = omega (arith, length-own_codes luma vectors)
    go false false = omega arith

length-motions_code : (modes : List ℕ) (lumas : List (List Bool)) (motions : List (List Offset)) → All (λ luma. length luma ≡ 4) lumas → length (motions_code modes lumas motions) ≤ 48 * length lumas
unfolding motions_code
length-motions_code [] lumas motions four = omega arith
length-motions_code (mode ∷ modes) [] motions four = omega arith
length-motions_code (mode ∷ modes) (luma ∷ lumas) [] four = omega arith
length-motions_code (mode ∷ modes) (luma ∷ lumas) (vectors ∷ motions) four =
    omega (
      arith,
      length-append (motion_code mode luma vectors) (motions_code modes lumas motions),
      length-motion_code mode luma vectors (All-head (λ l. length l ≡ 4) luma lumas four),
      length-motions_code modes lumas motions (All-tail (λ l. length l ≡ 4) luma lumas four),
    )

pub vectors_few : (s : Shape) (flags : List Bool) (modes : List ℕ) (motions : List (List Offset)) (old now new : List Bool) → now ≡ old ++ true ∷ [] → new ≡ now ++ motions_code modes (macro_flags s flags) motions → length new ≤ length old + (1 + 48 * length (macro_blocks s))
vectors_few s flags modes motions old now new a b =
    omega (
      arith,
      ap length a,
      ap length b,
      length-append old (true ∷ []),
      length-append now (motions_code modes (macro_flags s flags) motions),
      length-motions_code modes (macro_flags s flags) motions (four_flags s flags),
      flags_long s flags,
    )
