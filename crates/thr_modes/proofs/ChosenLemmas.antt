-- Vectors that are chosen as the modes allow can be read. The writer of vectors cites these.
use Rattle.std.proofs.Common.{◌≡◌, ℕ, zero, suc, ◌==◌, ◌||◌, Bool, true, false, cond, List, [], ◌∷◌, ◌++◌, length, get_or, Ok, refl, ap, sym, arith, append_assoc}
use Rattle.std.specs.List.{All}
use Rattle.std.proofs.lemmas.Bool.Decides.{nat_tests}
use Rattle.std.proofs.lemmas.Int.{ints}
use Rattle.std.proofs.lemmas.List.Elements.{All-tail}
use Rattle.vid_base.specs.declared.shape.Shape.{Shape}
use Rattle.vid_base.specs.Reading.{one_bit}
use Rattle.thr_modes.specs.Forms.{Fixed}
use Rattle.thr_modes.specs.Chosen.{AreChosen, AreChosenFrom, IsChosen, IsVector, StillWhereUncoded, memory_behind, motion_for}
use Rattle.thr_modes.specs.InOrder.{CanBeRead, each}
use Rattle.thr_modes.specs.LumaFlags.{macro_flags}
use Rattle.thr_modes.specs.Vectors.{Offset, still}
use Rattle.thr_modes.specs.Motion.{Memory, Motion, after, coded_vectors, empty, exchanged, last_coded, motion_in, motions, own_motion, own_vector, same_motion, vector_coding, vectors_of}
use Rattle.thr_modes.specs.WrittenVectors.{motion_code, motions_code, own_codes, vector_code}
use Rattle.thr_modes.proofs.VectorsBack.{code_by, luma_of, motion_by, vector_back}

-- the vectors of luma blocks are read as they were written
own_read : (luma : List Bool) (vectors : List Offset) (more : List Bool) → length vectors ≡ length luma → All IsVector vectors → StillWhereUncoded luma vectors
    → each (own_vector Fixed) luma (own_codes luma vectors ++ more) ≡ Ok (vectors, more)
unfolding each own_codes own_vector
own_read [] [] more long all none = refl
own_read [] (v ∷ vectors) more long all none = absurd (omega arith)
own_read (coded ∷ luma) [] more long all none = absurd (omega arith)
own_read (true ∷ luma) (v ∷ vectors) more long all none =
    let others = own_read luma vectors more (omega arith) (All-tail IsVector v vectors all) (λ b. none (suc b)) in
    rw (append_assoc (vector_code v) (own_codes luma vectors) more, vector_back v (own_codes luma vectors ++ more) (all zero still (omega arith)), others) refl
own_read (false ∷ luma) (v ∷ vectors) more long all none =
    let others = own_read luma vectors more (omega arith) (All-tail IsVector v vectors all) (λ b. none (suc b)) in
    rw others (ap (λ u. Ok (u ∷ vectors, more)) (sym (none zero refl)))

-- a macro block by the tests of its mode
abbrev behind_by : Bool → Bool → Bool → List Bool → Memory → List Offset → Memory
behind_by new last2 own luma memory vectors =
    cond new (after (get_or vectors 0 still) memory) (cond last2 (exchanged memory) (cond own (after (last_coded luma vectors memory.last1) memory) memory))

abbrev for_by : Bool → Bool → Bool → Bool → Bool → ℕ → Memory → List Offset → Motion
for_by new last last2 golden own pf memory vectors =
    cond (new || golden) (same_motion pf (get_or vectors 0 still))
    (cond last (same_motion pf memory.last1) (cond last2 (same_motion pf memory.last2) (cond own (own_motion pf vectors) (same_motion pf still))))

-- modes 3, 4 and 6 are no others of those that are tested
pub record Apart (last last2 golden own : Bool) : Type 0 where
  pub last_alone : last ≡ true → (last2 ≡ false) × (golden ≡ false) × (own ≡ false)
  pub last2_alone : last2 ≡ true → (golden ≡ false) × (own ≡ false)
  pub golden_alone : golden ≡ true → own ≡ false

read_by : (new last last2 golden own : Bool) → Apart last last2 golden own → (pf : ℕ) (luma : List Bool) (memory : Memory) (vectors : List Offset) (motion : Motion) (more : List Bool)
    → IsVector (get_or vectors 0 still) → (own ≡ true → each (own_vector Fixed) luma (own_codes luma vectors ++ more) ≡ Ok (vectors, more)) → motion ≡ for_by new last last2 golden own pf memory vectors
    → motion_by new last last2 golden own Fixed pf luma memory (code_by new golden own luma vectors ++ more) ≡ Ok ((motion, behind_by new last2 own luma memory vectors), more)
read_by true last last2 golden own d pf luma memory vectors motion more small owns e =
    rw (vector_back (get_or vectors 0 still) more small) (ap (λ m. Ok ((m, after (get_or vectors 0 still) memory), more)) (sym e))
read_by false true last2 golden own d pf luma memory vectors motion more small owns e =
    let none = d.last_alone refl in
    let is = rw none.1 at e in
    rw (none.0, none.1, none.2) (ap (λ m. Ok ((m, memory), more)) (sym is))
read_by false false true golden own d pf luma memory vectors motion more small owns e =
    let none = d.last2_alone refl in
    let is = rw none.0 at e in
    rw (none.0, none.1) (ap (λ m. Ok ((m, exchanged memory), more)) (sym is))
read_by false false false true own d pf luma memory vectors motion more small owns e =
    let none = d.golden_alone refl in
    rw (vector_back (get_or vectors 0 still) more small, none) (ap (λ m. Ok ((m, memory), more)) (sym e))
read_by false false false false true d pf luma memory vectors motion more small owns e =
    rw (owns refl) (ap (λ m. Ok ((m, after (last_coded luma vectors memory.last1) memory), more)) (sym e))
read_by false false false false false d pf luma memory vectors motion more small owns e = ap (λ m. Ok ((m, memory), more)) (sym e)

none_small : IsVector still
none_small = ((omega (arith, ints), omega (arith, ints)), (omega (arith, ints), omega (arith, ints)))

first_small : (vectors : List Offset) → All IsVector vectors → IsVector (get_or vectors 0 still)
first_small [] all = none_small
first_small (v ∷ vectors) all = all zero still (omega arith)

-- the vectors of a macro block
motion_read : (pf mode : ℕ) (luma : List Bool) (memory : Memory) (motion : Motion) (more : List Bool) → IsChosen pf mode luma memory motion
    → motion_in Fixed pf mode luma memory (motion_code mode luma motion.luma ++ more) ≡ Ok ((motion, memory_behind mode luma memory motion.luma), more)
unfolding motion_in motion_code memory_behind motion_for
motion_read pf mode luma memory motion more is =
    read_by (mode == 2) (mode == 3) (mode == 4) (mode == 6) (mode == 7) apart pf luma memory motion.luma motion more (first_small motion.luma is.small)
    (λ seven. own_read luma motion.luma more is.long is.small (is.uncoded (grind (arith, nat_tests)))) is.allowed
  where
    apart : Apart (mode == 3) (mode == 4) (mode == 6) (mode == 7)
    apart = record {
      last_alone = λ e. (grind (arith, nat_tests), grind (arith, nat_tests), grind (arith, nat_tests));
      last2_alone = λ e. (grind (arith, nat_tests), grind (arith, nat_tests));
      golden_alone = λ e. grind (arith, nat_tests);
    }

-- those of macro blocks one behind the other
motions_read : (pf : ℕ) (modes : List ℕ) (lumas : List (List Bool)) (memory : Memory) (all : List Motion) (more : List Bool) → AreChosenFrom pf modes lumas memory all
    → motions Fixed pf modes lumas memory (motions_code modes lumas (luma_of all) ++ more) ≡ Ok (all, more)
unfolding motions motions_code
motions_read pf [] [] memory [] more chosen = refl
motions_read pf [] [] memory (motion ∷ all) more chosen = absurd chosen
motions_read pf [] (luma ∷ lumas) memory all more chosen = absurd chosen
motions_read pf (mode ∷ modes) [] memory all more chosen = absurd chosen
motions_read pf (mode ∷ modes) (luma ∷ lumas) memory [] more chosen = absurd chosen
motions_read pf (mode ∷ modes) (luma ∷ lumas) memory (motion ∷ all) more chosen =
    let rest : List Bool = motions_code modes lumas (luma_of all) in
    rw (
      append_assoc (motion_code mode luma motion.luma) rest more,
      motion_read pf mode luma memory motion (rest ++ more) chosen.0,
      motions_read pf modes lumas (memory_behind mode luma memory motion.luma) all more chosen.1,
    ) refl

-- vectors that are chosen can be read
pub chosen_read : (s : Shape) (flags : List Bool) (modes : List ℕ) (vectors : List Offset) → AreChosen s flags modes vectors → CanBeRead (vectors_of s flags modes) vectors
unfolding vectors_of vector_coding one_bit coded_vectors
chosen_read s flags modes vectors chosen =
    let code : List Bool = motions_code modes (macro_flags s flags) (luma_of chosen.0) in
    (true ∷ (code ++ []), [], rw (motions_read s.pf modes (macro_flags s flags) empty chosen.0 [] chosen.1) (ap (λ v. Ok (v, [])) (sym chosen.2)))
