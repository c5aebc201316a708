-- Vectors that were written macro block by macro block are read back. The writer of vectors cites these.
use Rattle.std.proofs.Common.{◌≡◌, ℕ, zero, suc, ℤ, pos, negsuc, ◌+◌, ◌<◌, ◌==◌, ◌||◌, Bool, true, false, cond, List, [], ◌∷◌, ◌++◌, map, get_or, Result, Ok, Err, IfOk, refl, ap, arith, append_assoc}
use Rattle.std.specs.Int.{is_negative}
use Rattle.std.specs.Int.RustNames.{unsigned_abs}
use Rattle.std.specs.List.{All}
use Rattle.std.proofs.lemmas.Bool.Decides.{nat_tests}
use Rattle.std.proofs.lemmas.Int.{ints}
use Rattle.std.proofs.lemmas.List.Elements.{All-head, All-tail}
use Rattle.vid_base.specs.declared.fault.PacketFault.{PacketFault}
use Rattle.vid_base.specs.Bits.{digits}
use Rattle.vid_base.specs.Reading.{one_bit, ◌>>=◌}
use Rattle.vid_base.proofs.NumberLemmas.{take-digits}
use Rattle.thr_modes.specs.Forms.{VectorForm, Fixed}
use Rattle.thr_modes.specs.Chosen.{IsVector}
use Rattle.thr_modes.specs.InOrder.{each}
use Rattle.thr_modes.specs.Vectors.{Offset, IsComponent, still, signed, sized, component, vector_in}
use Rattle.thr_modes.specs.Motion.{Motion, Memory, same_motion, own_motion, after, exchanged, own_vector, last_coded, motion_in, motions}
use Rattle.thr_modes.specs.WrittenVectors.{component_code, vector_code, own_codes, motion_code, motions_code}
use Rattle.thr_modes.proofs.OkLemmas.{any_ok}

size_small : (c : ℤ) → IsComponent c → unsigned_abs c < 32
size_small (pos k) h = omega (arith, ints)
size_small (negsuc k) h = omega (arith, ints)

sign_back : (c : ℤ) → signed (is_negative c) (0 + unsigned_abs c) ≡ c
unfolding signed
sign_back (pos k) = let f : is_negative (pos k) ≡ false = grind (arith, nat_tests) in let e : 0 + k ≡ k = omega arith in rw (f, e) refl
sign_back (negsuc k) = let e : 0 + suc k ≡ suc k = omega arith in rw e refl

-- a component is read back
component_back : (c : ℤ) (more : List Bool) → IsComponent c → component Fixed (component_code c ++ more) ≡ Ok (c, more)
unfolding component sized component_code one_bit
component_back c more h =
    rw (append_assoc (digits 5 (unsigned_abs c)) (is_negative c ∷ []) more, take-digits 5 (unsigned_abs c) (is_negative c ∷ more) (size_small c h)) (ap (λ k. Ok (k, more)) (sign_back c))

-- a vector is read back
pub vector_back : (v : Offset) (more : List Bool) → IsVector v → vector_in Fixed (vector_code v ++ more) ≡ Ok (v, more)
unfolding vector_in vector_code
vector_back v more h = rw (append_assoc (component_code v.x) (component_code v.y) more, component_back v.x (component_code v.y ++ more) h.0, component_back v.y more h.1) refl

-- the vector of a luma block is read back
abbrev OwnBack : Bool → Offset × List Bool → Type 0
OwnBack coded read = IsVector read.0 → (more : List Bool) → own_vector Fixed coded (cond coded (vector_code read.0) [] ++ more) ≡ Ok (read.0, more)

own_back : (coding : VectorForm) (coded : Bool) (bits : List Bool) → IfOk (own_vector coding coded bits) (OwnBack coded)
unfolding own_vector
own_back coding true bits = any_ok (OwnBack true) (vector_in coding bits) (λ read h more. vector_back read.0 more h)
own_back coding false bits = λ h more. refl

-- those of luma blocks are
abbrev OwnsBack : List Bool → List Offset × List Bool → Type 0
OwnsBack luma read = All IsVector read.0 → (more : List Bool) → each (own_vector Fixed) luma (own_codes luma read.0 ++ more) ≡ Ok (read.0, more)

more_owns : (coded : Bool) (luma : List Bool) (first : Offset × List Bool) (read : Result (List Offset × List Bool) PacketFault) → OwnBack coded first → IfOk read (OwnsBack luma)
    → IfOk (read >>= (λ others. Ok (first.0 ∷ others.0, others.1))) (OwnsBack (coded ∷ luma))
unfolding each own_codes
more_owns coded luma first (Ok others) own owns = λ all more.
    let a = own (All-head IsVector first.0 others.0 all) (own_codes luma others.0 ++ more) in
    let b = owns (All-tail IsVector first.0 others.0 all) more in
    rw (append_assoc (cond coded (vector_code first.0) []) (own_codes luma others.0) more, a, b) refl
more_owns coded luma first (Err fault) own owns = tt

owns_back : (coding : VectorForm) (luma : List Bool) (bits : List Bool) → IfOk (each (own_vector coding) luma bits) (OwnsBack luma)
unfolding each own_codes
owns_back coding [] bits = λ all more. refl
owns_back coding (coded ∷ luma) bits = go (own_vector coding coded bits) (own_back coding coded bits) (owns_back coding luma)
  where
    go : (read : Result (Offset × List Bool) PacketFault) → IfOk read (OwnBack coded) → ((bits : List Bool) → IfOk (each (own_vector coding) luma bits) (OwnsBack luma))
        → IfOk (read >>= (λ first. each (own_vector coding) luma first.1 >>= (λ others. Ok (first.0 ∷ others.0, others.1)))) (OwnsBack (coded ∷ luma))
    go (Ok first) own owns = more_owns coded luma first (each (own_vector coding) luma first.1) own (owns first.1)
    go (Err fault) own owns = tt

-- a macro block by the tests of its mode
abbrev pub motion_by : Bool → Bool → Bool → Bool → Bool → VectorForm → ℕ → List Bool → Memory → List Bool → Result ((Motion × Memory) × List Bool) PacketFault
motion_by new last last2 golden own coding pf luma memory bits =
    cond new (vector_in coding bits >>= (λ v. Ok ((same_motion pf v.0, after v.0 memory), v.1)))
    (cond last (Ok ((same_motion pf memory.last1, memory), bits))
    (cond last2 (Ok ((same_motion pf memory.last2, exchanged memory), bits))
    (cond golden (vector_in coding bits >>= (λ v. Ok ((same_motion pf v.0, memory), v.1)))
    (cond own (each (own_vector coding) luma bits >>= (λ vs. Ok ((own_motion pf vs.0, after (last_coded luma vs.0 memory.last1) memory), vs.1)))
    (Ok ((same_motion pf still, memory), bits))))))

abbrev pub code_by : Bool → Bool → Bool → List Bool → List Offset → List Bool
code_by new golden own luma vectors = cond (new || golden) (vector_code (get_or vectors 0 still)) (cond own (own_codes luma vectors) [])

abbrev ByBack : Bool → Bool → Bool → Bool → Bool → ℕ → List Bool → Memory → (Motion × Memory) × List Bool → Type 0
ByBack new last last2 golden own pf luma memory read =
    All IsVector read.0.0.luma → (more : List Bool) → motion_by new last last2 golden own Fixed pf luma memory (code_by new golden own luma read.0.0.luma ++ more) ≡ Ok (read.0, more)

by_back : (new last last2 golden own : Bool) → (last ≡ true → (golden ≡ false) × (own ≡ false)) → (last2 ≡ true → (golden ≡ false) × (own ≡ false)) → (coding : VectorForm) (pf : ℕ) (luma : List Bool) (memory : Memory) (bits : List Bool)
    → IfOk (motion_by new last last2 golden own coding pf luma memory bits) (ByBack new last last2 golden own pf luma memory)
unfolding same_motion own_motion
by_back true last last2 golden own d e coding pf luma memory bits = go (vector_in coding bits)
  where
    go : (read : Result (Offset × List Bool) PacketFault) → IfOk (read >>= (λ v. Ok ((same_motion pf v.0, after v.0 memory), v.1))) (ByBack true last last2 golden own pf luma memory)
    go (Ok v) = λ all more. rw (vector_back v.0 more (all zero still (omega arith))) refl
    go (Err fault) = tt
by_back false true last2 golden own d e coding pf luma memory bits = λ all more. (let none = d refl in rw (none.0, none.1) refl)
by_back false false true golden own d e coding pf luma memory bits = λ all more. (let none = e refl in rw (none.0, none.1) refl)
by_back false false false true own d e coding pf luma memory bits = go (vector_in coding bits)
  where
    go : (read : Result (Offset × List Bool) PacketFault) → IfOk (read >>= (λ v. Ok ((same_motion pf v.0, memory), v.1))) (ByBack false false false true own pf luma memory)
    go (Ok v) = λ all more. rw (vector_back v.0 more (all zero still (omega arith))) refl
    go (Err fault) = tt
by_back false false false false true d e coding pf luma memory bits = go (each (own_vector coding) luma bits) (owns_back coding luma bits)
  where
    go : (read : Result (List Offset × List Bool) PacketFault) → IfOk read (OwnsBack luma)
        → IfOk (read >>= (λ vs. Ok ((own_motion pf vs.0, after (last_coded luma vs.0 memory.last1) memory), vs.1))) (ByBack false false false false true pf luma memory)
    go (Ok vs) owns = λ all more. rw (owns all more) refl
    go (Err fault) owns = tt
by_back false false false false false d e coding pf luma memory bits = λ all more. refl

-- the motion of a macro block is read back
abbrev MotionBack : ℕ → ℕ → List Bool → Memory → (Motion × Memory) × List Bool → Type 0
MotionBack pf mode luma memory read =
    All IsVector read.0.0.luma → (more : List Bool) → motion_in Fixed pf mode luma memory (motion_code mode luma read.0.0.luma ++ more) ≡ Ok (read.0, more)

motion_back : (coding : VectorForm) (pf mode : ℕ) (luma : List Bool) (memory : Memory) (bits : List Bool) → IfOk (motion_in coding pf mode luma memory bits) (MotionBack pf mode luma memory)
unfolding motion_in motion_code
motion_back coding pf mode luma memory bits =
    by_back (mode == 2) (mode == 3) (mode == 4) (mode == 6) (mode == 7) (λ e. (grind (arith, nat_tests), grind (arith, nat_tests))) (λ e. (grind (arith, nat_tests), grind (arith, nat_tests))) coding pf luma memory bits

-- those of macro blocks are
abbrev pub luma_of : List Motion → List (List Offset)
luma_of all = map (λ motion. motion.luma) all

abbrev pub MotionsBack : ℕ → List ℕ → List (List Bool) → Memory → List Motion × List Bool → Type 0
MotionsBack pf modes lumas memory read =
    All (All IsVector) (luma_of read.0) → (more : List Bool) → motions Fixed pf modes lumas memory (motions_code modes lumas (luma_of read.0) ++ more) ≡ Ok (read.0, more)

more_motions : (pf mode : ℕ) (modes : List ℕ) (luma : List Bool) (lumas : List (List Bool)) (memory : Memory) (first : (Motion × Memory) × List Bool) (read : Result (List Motion × List Bool) PacketFault)
    → MotionBack pf mode luma memory first → IfOk read (MotionsBack pf modes lumas first.0.1) → IfOk (read >>= (λ others. Ok (first.0.0 ∷ others.0, others.1))) (MotionsBack pf (mode ∷ modes) (luma ∷ lumas) memory)
unfolding motions motions_code
more_motions pf mode modes luma lumas memory first (Ok others) one rest = λ all more.
    let a = one (All-head (All IsVector) first.0.0.luma (luma_of others.0) all) (motions_code modes lumas (luma_of others.0) ++ more) in
    let b = rest (All-tail (All IsVector) first.0.0.luma (luma_of others.0) all) more in
    rw (append_assoc (motion_code mode luma first.0.0.luma) (motions_code modes lumas (luma_of others.0)) more, a, b) refl
more_motions pf mode modes luma lumas memory first (Err fault) one rest = tt

pub motions_back : (coding : VectorForm) (pf : ℕ) (modes : List ℕ) (lumas : List (List Bool)) (memory : Memory) (bits : List Bool) → IfOk (motions coding pf modes lumas memory bits) (MotionsBack pf modes lumas memory)
unfolding motions motions_code
motions_back coding pf [] lumas memory bits = λ all more. refl
motions_back coding pf (mode ∷ modes) [] memory bits = λ all more. refl
motions_back coding pf (mode ∷ modes) (luma ∷ lumas) memory bits = go (motion_in coding pf mode luma memory bits) (motion_back coding pf mode luma memory bits) (motions_back coding pf modes lumas)
  where
    go : (read : Result ((Motion × Memory) × List Bool) PacketFault) → IfOk read (MotionBack pf mode luma memory) → ((memory : Memory) (bits : List Bool) → IfOk (motions coding pf modes lumas memory bits) (MotionsBack pf modes lumas memory))
        → IfOk (read >>= (λ first. motions coding pf modes lumas first.0.1 first.1 >>= (λ others. Ok (first.0.0 ∷ others.0, others.1)))) (MotionsBack pf (mode ∷ modes) (luma ∷ lumas) memory)
    go (Ok first) one rest = more_motions pf mode modes luma lumas memory first (motions coding pf modes lumas first.0.1 first.1) one (rest first.0.1 first.1)
    go (Err fault) one rest = tt
