-- What was read is what a setup header can say: limits, scales and base matrices. The laws cite these.
use Rattle.std.proofs.Common.{◌≡◌, ℕ, ◌+◌, ◌^◌, ◌<◌, ◌≤◌, Bool, List, length, All, Ok, arith}
use Rattle.std.proofs.Math.Dec.{ltb}
use Rattle.std.proofs.Math.Pow.{pow_mono}
use Rattle.std.proofs.lemmas.Bool.{ltb-false}
use Rattle.vid_base.specs.declared.fault.PacketFault.TheVariants.{Matrices}
use Rattle.vid_base.specs.Items.{items}
use Rattle.vid_base.specs.Reading.{field}
use Rattle.vid_base.proofs.SoundLemmas.{field-small, items-sound, unless_met, went_on}
use Rattle.thr_quant.specs.Limits.{IsLimits, limits_of}
use Rattle.thr_quant.specs.Ramps.{AreScales, IsBaseMatrix, scales_of, base_matrix_of, matrices_of}
use Rattle.thr_quant.specs.Ranges.{IsMatrixCount}

-- numbers of one width
pub numbers-sound : (width most n : ℕ) (bits : List Bool) (y : List ℕ × List Bool) → width ≤ most → items (field width) n bits ≡ Ok y → (length y.0 ≡ n) × All (λ v. v < 2 ^ most) y.0
numbers-sound width most n bits y fits e =
    items-sound (λ v. v < 2 ^ most) (field width) (λ more x h. omega (arith, field-small width more x h, pow_mono fits)) n bits y e

-- limits
pub limits_of-sound : (bits : List Bool) (y : List ℕ × List Bool) → limits_of bits ≡ Ok y → IsLimits y.0
unfolding limits_of
limits_of-sound bits y e =
    let width = went_on (field 3 bits) _ y e in
    let numbers = numbers-sound width.0.0 7 64 width.0.1 y (omega (arith, field-small 3 bits width.0 width.1)) width.2 in
    record { count = numbers.0; small = numbers.1 }

-- scales
pub scales_of-sound : (bits : List Bool) (y : List ℕ × List Bool) → scales_of bits ≡ Ok y → AreScales y.0
unfolding scales_of
scales_of-sound bits y e =
    let width = went_on (field 4 bits) _ y e in
    let numbers = numbers-sound (width.0.0 + 1) 16 64 width.0.1 y (omega (arith, field-small 4 bits width.0 width.1)) width.2 in
    record { count = numbers.0; small = numbers.1 }

base_matrix_of-sound : (bits : List Bool) (y : List ℕ × List Bool) → base_matrix_of bits ≡ Ok y → IsBaseMatrix y.0
unfolding base_matrix_of
base_matrix_of-sound bits y e = let numbers = numbers-sound 8 8 64 bits y (omega arith) e in record { count = numbers.0; bytes = numbers.1 }

-- base matrices
pub matrices_of-sound : (bits : List Bool) (y : List (List ℕ) × List Bool) → matrices_of bits ≡ Ok y → IsMatrixCount (length y.0) × All IsBaseMatrix y.0
unfolding matrices_of
matrices_of-sound bits y e =
    let count = went_on (field 9 bits) _ y e in
    let few = unless_met (ltb 384 (count.0.0 + 1)) Matrices (items base_matrix_of (count.0.0 + 1) count.0.1) y count.2 in
    let list = items-sound IsBaseMatrix base_matrix_of base_matrix_of-sound (count.0.0 + 1) count.0.1 y few.1 in
    let most : count.0.0 + 1 ≤ 384 = ltb-false 384 (count.0.0 + 1) few.0 in
    ((omega (arith, list.0), omega (arith, list.0)), list.1)
