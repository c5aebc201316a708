-- How many vectors a macro block's motion has: one for each of its blocks. The readers of vectors cite these.
use Rattle.std.proofs.Common.{◌≡◌, ◌∙◌, ℕ, zero, suc, ◌==◌, Bool, true, false, cond, List, [], ◌∷◌, length, replicate, Result, Ok, Err, IfOk, refl, arith}
use Rattle.std.specs.List.{All}
use Rattle.std.proofs.lemmas.Bool.Decides.{nat_tests}
use Rattle.std.proofs.lemmas.List.Elements.{All-nil, All-head, All-tail}
use Rattle.vid_base.specs.declared.fault.PacketFault.{PacketFault}
use Rattle.vid_base.specs.Reading.{◌>>=◌}
use Rattle.thr_modes.specs.Forms.{VectorForm}
use Rattle.thr_modes.specs.InOrder.{each}
use Rattle.thr_modes.specs.Vectors.{Offset, still, vector_in}
use Rattle.thr_modes.specs.Motion.{Motion, Memory, chroma_count, same_motion, own_motion, chroma_of, after, exchanged, own_vector, last_coded, motion_in, motions}
use Rattle.thr_modes.proofs.OkLemmas.{after_any, Long, more_long}

-- a motion has a vector for each block of a macro block
pub record HasVectors (pf : ℕ) (motion : Motion) : Type 0 where
  pub luma : length motion.luma ≡ 4
  pub chroma : length motion.chroma ≡ chroma_count pf

length-replicate : {X : Type 0} (n : ℕ) (x : X) → length (replicate n x) ≡ n
length-replicate zero x = refl
length-replicate (suc n) x = (let e : length (replicate n x) ≡ n = length-replicate n x in omega arith)

same_has : (pf : ℕ) (v : Offset) → HasVectors pf (same_motion pf v)
unfolding same_motion
same_has pf v = record { luma = refl; chroma = length-replicate (chroma_count pf) v }

own_has : (pf : ℕ) (vectors : List Offset) → length vectors ≡ 4 → HasVectors pf (own_motion pf vectors)
unfolding own_motion chroma_of
own_has pf vectors h = record { luma = h; chroma = grind (arith, nat_tests) }

each_long : {X A F : Type 0} (item : X → List Bool → Result (A × List Bool) F) (xs : List X) (bits : List Bool) → IfOk (each item xs bits) (Long (length xs))
unfolding each
each_long item [] bits = refl
each_long item (x ∷ xs) bits =
    after_any (Long (suc (length xs))) (item x bits) (λ first. each item xs first.1 >>= (λ others. Ok (first.0 ∷ others.0, others.1)))
    (λ first. more_long (length xs) first.0 (each item xs first.1) (each_long item xs first.1))

-- the motion of a macro block of four luma blocks
abbrev pub Has : ℕ → (Motion × Memory) × List Bool → Type 0
Has pf read = HasVectors pf read.0.0

own_read_has : (pf : ℕ) (luma : List Bool) (memory : Memory) (read : Result (List Offset × List Bool) PacketFault) → length luma ≡ 4 → IfOk read (Long (length luma))
    → IfOk (read >>= (λ vs. Ok ((own_motion pf vs.0, after (last_coded luma vs.0 memory.last1) memory), vs.1))) (Has pf)
own_read_has pf luma memory (Ok vs) four h = own_has pf vs.0 (h ∙ four)
own_read_has pf luma memory (Err fault) four h = tt

pub motion_has : (coding : VectorForm) (pf mode : ℕ) (luma : List Bool) (memory : Memory) (bits : List Bool) → length luma ≡ 4 → IfOk (motion_in coding pf mode luma memory bits) (Has pf)
unfolding motion_in
motion_has coding pf mode luma memory bits four = go (mode == 2) (mode == 3) (mode == 4) (mode == 6) (mode == 7)
  where
    go : (new last last2 golden own : Bool) → IfOk (
        cond new (vector_in coding bits >>= (λ v. Ok ((same_motion pf v.0, after v.0 memory), v.1)))
        (cond last (Ok ((same_motion pf memory.last1, memory), bits))
        (cond last2 (Ok ((same_motion pf memory.last2, exchanged memory), bits))
        (cond golden (vector_in coding bits >>= (λ v. Ok ((same_motion pf v.0, memory), v.1)))
        (cond own (each (own_vector coding) luma bits >>= (λ vs. Ok ((own_motion pf vs.0, after (last_coded luma vs.0 memory.last1) memory), vs.1)))
        (Ok ((same_motion pf still, memory), bits))))))) (Has pf)
    go true last last2 golden own = after_any (Has pf) (vector_in coding bits) (λ v. Ok ((same_motion pf v.0, after v.0 memory), v.1)) (λ v. same_has pf v.0)
    go false true last2 golden own = same_has pf memory.last1
    go false false true golden own = same_has pf memory.last2
    go false false false true own = after_any (Has pf) (vector_in coding bits) (λ v. Ok ((same_motion pf v.0, memory), v.1)) (λ v. same_has pf v.0)
    go false false false false true = own_read_has pf luma memory (each (own_vector coding) luma bits) four (each_long (own_vector coding) luma bits)
    go false false false false false = same_has pf still

-- motions for macro blocks: as many as there are macro blocks
pub record AreMotions (pf n : ℕ) (all : List Motion) : Type 0 where
  pub long : length all ≡ n
  pub each : All (HasVectors pf) all

All-cons : {X : Type 0} (P : X → Type 0) (x : X) (xs : List X) → P x → All P xs → All P (x ∷ xs)
All-cons P x xs h all zero d within = h
All-cons P x xs h all (suc k) d within = all k d (omega arith)

abbrev pub HaveMotions : ℕ → ℕ → List Motion × List Bool → Type 0
HaveMotions pf n read = AreMotions pf n read.0

more_have : (pf n : ℕ) (first : Motion) (read : Result (List Motion × List Bool) PacketFault) → HasVectors pf first → IfOk read (HaveMotions pf n)
    → IfOk (read >>= (λ others. Ok (first ∷ others.0, others.1))) (HaveMotions pf (suc n))
more_have pf n first (Ok y) has h = record { long = (let l = h.long in omega arith); each = All-cons (HasVectors pf) first y.0 has h.each }
more_have pf n first (Err fault) has h = tt

pub motions_have : (coding : VectorForm) (pf : ℕ) (modes : List ℕ) (lumas : List (List Bool)) (memory : Memory) (bits : List Bool) → length lumas ≡ length modes → All (λ luma. length luma ≡ 4) lumas
    → IfOk (motions coding pf modes lumas memory bits) (HaveMotions pf (length modes))
unfolding motions
motions_have coding pf [] lumas memory bits e four = record { long = refl; each = All-nil (HasVectors pf) }
motions_have coding pf (mode ∷ modes) [] memory bits e four = absurd (omega arith)
motions_have coding pf (mode ∷ modes) (luma ∷ lumas) memory bits e four =
    go (motion_in coding pf mode luma memory bits) (motion_has coding pf mode luma memory bits (All-head (λ luma. length luma ≡ 4) luma lumas four))
    (λ memory bits. motions_have coding pf modes lumas memory bits (omega arith) (All-tail (λ luma. length luma ≡ 4) luma lumas four))
  where
    go : (read : Result ((Motion × Memory) × List Bool) PacketFault) → IfOk read (Has pf) → ((memory : Memory) (bits : List Bool) → IfOk (motions coding pf modes lumas memory bits) (HaveMotions pf (length modes)))
        → IfOk (read >>= (λ first. motions coding pf modes lumas first.0.1 first.1 >>= (λ others. Ok (first.0.0 ∷ others.0, others.1)))) (HaveMotions pf (suc (length modes)))
    go (Ok first) has again = more_have pf (length modes) first.0.0 (motions coding pf modes lumas first.0.1 first.1) has (again first.0.1 first.1)
    go (Err fault) has again = tt
