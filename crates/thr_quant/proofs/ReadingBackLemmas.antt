-- What was written is read, whatever bits follow: numbers, limits, scales. The writers cite these.
use Rattle.std.proofs.Common.{◌≡◌, ℕ, suc, ◌+◌, ◌-◌, ◌^◌, ◌<◌, ◌≤◌, Bool, false, List, [], ◌∷◌, ◌++◌, length, max, All, Ok, refl, ap, arith, append_assoc}
use Rattle.std.proofs.Math.Dec.{ltb}
use Rattle.std.proofs.lemmas.Bool.{le-ltb}
use Rattle.std.proofs.lemmas.List.Elements.{All-head, All-tail}
use Rattle.vid_base.specs.Bits.{digits}
use Rattle.vid_base.specs.Items.{items, all_digits}
use Rattle.vid_base.specs.Reading.{field, or_ended}
use Rattle.vid_base.proofs.NumberLemmas.{take-digits}
use Rattle.thr_quant.specs.Limits.{width_of, limits_of, limits_bits}
use Rattle.thr_quant.specs.Ramps.{scales_of, scales_bits, base_matrix_of, matrix_list_bits, matrices_of, matrices_bits}

-- a field
pub field-digits : (width v : ℕ) (rest : List Bool) → v < 2 ^ width → field width (digits width v ++ rest) ≡ Ok (v, rest)
field-digits width v rest h = ap or_ended (take-digits width v rest h)

-- numbers of one width
pub items-all_digits : (width : ℕ) (numbers : List ℕ) (rest : List Bool) → All (λ v. v < 2 ^ width) numbers
    → items (field width) (length numbers) (all_digits width numbers ++ rest) ≡ Ok (numbers, rest)
unfolding items all_digits
items-all_digits width [] rest small = refl
items-all_digits width (v ∷ numbers) rest small =
    let first : field width (digits width v ++ (all_digits width numbers ++ rest)) ≡ Ok (v, all_digits width numbers ++ rest) =
    field-digits width v (all_digits width numbers ++ rest) (All-head (λ u. u < 2 ^ width) v numbers small) in
    rw (append_assoc (digits width v) (all_digits width numbers) rest, first, items-all_digits width numbers rest (All-tail (λ u. u < 2 ^ width) v numbers small)) refl

-- limits
pub limits_of-limits_bits : (numbers : List ℕ) (rest : List Bool) → length numbers ≡ 64 → width_of numbers < 8 → All (λ v. v < 2 ^ width_of numbers) numbers
    → limits_of (limits_bits numbers ++ rest) ≡ Ok (numbers, rest)
unfolding limits_of limits_bits
limits_of-limits_bits numbers rest long narrow small =
    let width : field 3 (digits 3 (width_of numbers) ++ (all_digits (width_of numbers) numbers ++ rest)) ≡ Ok (width_of numbers, all_digits (width_of numbers) numbers ++ rest) =
    field-digits 3 (width_of numbers) (all_digits (width_of numbers) numbers ++ rest) narrow in
    rw (append_assoc (digits 3 (width_of numbers)) (all_digits (width_of numbers) numbers) rest, width, ← long) (items-all_digits (width_of numbers) numbers rest small)

-- scales
pub scales_of-scales_bits : (numbers : List ℕ) (rest : List Bool) → length numbers ≡ 64 → width_of numbers ≤ 16 → All (λ v. v < 2 ^ max 1 (width_of numbers)) numbers
    → scales_of (scales_bits numbers ++ rest) ≡ Ok (numbers, rest)
unfolding scales_of scales_bits
scales_of-scales_bits numbers rest long narrow small =
    let less : max 1 (width_of numbers) - 1 < 16 = omega arith in
    let back : max 1 (width_of numbers) - 1 + 1 ≡ max 1 (width_of numbers) = omega arith in
    let width : field 4 (digits 4 (max 1 (width_of numbers) - 1) ++ (all_digits (max 1 (width_of numbers)) numbers ++ rest)) ≡ Ok (max 1 (width_of numbers) - 1, all_digits (max 1 (width_of numbers)) numbers ++ rest) =
    field-digits 4 (max 1 (width_of numbers) - 1) (all_digits (max 1 (width_of numbers)) numbers ++ rest) less in
    rw (append_assoc (digits 4 (max 1 (width_of numbers) - 1)) (all_digits (max 1 (width_of numbers)) numbers) rest, width, back, ← long) (items-all_digits (max 1 (width_of numbers)) numbers rest small)

-- a base matrix
pub base_matrix_of-all_digits : (matrix : List ℕ) (rest : List Bool) → length matrix ≡ 64 → All (λ v. v < 2 ^ 8) matrix → base_matrix_of (all_digits 8 matrix ++ rest) ≡ Ok (matrix, rest)
unfolding base_matrix_of
base_matrix_of-all_digits matrix rest long small = rw (← long) (items-all_digits 8 matrix rest small)

-- base matrices that read back one by one
pub items-matrix_list_bits : (list : List (List ℕ)) (rest : List Bool) → All (λ m. (after : List Bool) → base_matrix_of (all_digits 8 m ++ after) ≡ Ok (m, after)) list
    → items base_matrix_of (length list) (matrix_list_bits list ++ rest) ≡ Ok (list, rest)
unfolding items matrix_list_bits
items-matrix_list_bits [] rest back = refl
items-matrix_list_bits (m ∷ list) rest back =
    let first : base_matrix_of (all_digits 8 m ++ (matrix_list_bits list ++ rest)) ≡ Ok (m, matrix_list_bits list ++ rest) = back 0 m (omega arith) (matrix_list_bits list ++ rest) in
    let others : items base_matrix_of (length list) (matrix_list_bits list ++ rest) ≡ Ok (list, rest) = items-matrix_list_bits list rest (λ k d h. back (suc k) d (omega arith)) in
    rw (append_assoc (all_digits 8 m) (matrix_list_bits list) rest, first, others) refl

-- base matrices behind their number
pub matrices_of-matrices_bits : (list : List (List ℕ)) (rest : List Bool) → 0 < length list → length list ≤ 384
    → items base_matrix_of (length list) (matrix_list_bits list ++ rest) ≡ Ok (list, rest) → matrices_of (matrices_bits list ++ rest) ≡ Ok (list, rest)
unfolding matrices_of matrices_bits
matrices_of-matrices_bits list rest some most back =
    let few : length list - 1 < 512 = omega arith in
    let count : length list - 1 + 1 ≡ length list = omega arith in
    let within : ltb 384 (length list) ≡ false = le-ltb 384 (length list) most in
    rw (append_assoc (digits 9 (length list - 1)) (matrix_list_bits list) rest, field-digits 9 (length list - 1) (matrix_list_bits list ++ rest) few, count, within) back
