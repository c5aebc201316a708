-- The modes and vectors that may be chosen. The search cites these.
use Rattle.std.proofs.Common.{refl, arith}
use Rattle.std.proofs.lemmas.Int.{ints}
use Rattle.vid_base.specs.declared.shape.Vector.{Vector}
use Rattle.thr_modes.specs.Chosen.{IsVector, motion_for}
use Rattle.thr_modes.specs.Vectors.{offset_of, still}
use Rattle.thr_modes.specs.Motion.{Memory}
use Rattle.enc_search.specs.Found.{IsAllowed}

pub vector_is : (v : Vector) → IsVector (offset_of v)
unfolding offset_of
vector_is v = (v.across, v.upwards)

still_small : IsVector still
still_small = ((omega (arith, ints), omega (arith, ints)), (omega (arith, ints), omega (arith, ints)))

-- without motion: from the previous frame, from nothing, and from the golden frame
pub still_allowed : (memory : Memory) → IsAllowed memory 0 still
unfolding motion_for
still_allowed memory = record { small = omega arith; vector = still_small; motion = λ pf. refl }

pub flat_allowed : (memory : Memory) → IsAllowed memory 1 still
unfolding motion_for
flat_allowed memory = record { small = omega arith; vector = still_small; motion = λ pf. refl }

pub golden_allowed : (memory : Memory) → IsAllowed memory 5 still
unfolding motion_for
golden_allowed memory = record { small = omega arith; vector = still_small; motion = λ pf. refl }

-- any vector, and those that are remembered
pub new_allowed : (memory : Memory) (v : Vector) → IsAllowed memory 2 (offset_of v)
unfolding motion_for
new_allowed memory v = record { small = omega arith; vector = vector_is v; motion = λ pf. refl }

pub last_allowed : (memory : Memory) → IsVector memory.last1 → IsAllowed memory 3 memory.last1
unfolding motion_for
last_allowed memory is = record { small = omega arith; vector = is; motion = λ pf. refl }

pub last2_allowed : (memory : Memory) → IsVector memory.last2 → IsAllowed memory 4 memory.last2
unfolding motion_for
last2_allowed memory is = record { small = omega arith; vector = is; motion = λ pf. refl }
