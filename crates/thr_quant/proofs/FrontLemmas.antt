-- Limits and quantisers are read from the front. The laws cite these.
use Rattle.std.proofs.Common.{ℕ, zero, suc, ◌+◌, ◌-◌, [], ◌∷◌, length, Option, Some, None, nat_eq, nat_lt, Ok, Err}
use Rattle.vid_base.specs.declared.fault.PacketFault.TheVariants.{Matrices, MatrixIndex, Ramp}
use Rattle.vid_base.specs.Arithmetic.{bit_length}
use Rattle.vid_base.specs.Fronts.{ReadsFront}
use Rattle.vid_base.specs.Items.{items}
use Rattle.vid_base.specs.Reading.{field}
use Rattle.vid_base.proofs.FrontLemmas.{front-value, front-fault, front-if, front-field, front-then, front-items}
use Rattle.thr_quant.specs.Limits.{limits_of}
use Rattle.thr_quant.specs.Ranges.{Ranges, matrix_index_of, range_of, list_of, ranges_of}
use Rattle.thr_quant.specs.Ramps.{copy_of, pair_of, pairs_of, ramps_of, scales_of, base_matrix_of, matrices_of}

pub front-limits : ReadsFront limits_of
unfolding limits_of
front-limits = front-then (field 3) _ (front-field 3) (λ width. front-items (field width) 64 (front-field width))

front-scales : ReadsFront scales_of
unfolding scales_of
front-scales = front-then (field 4) _ (front-field 4) (λ width. front-items (field (width + 1)) 64 (front-field (width + 1)))

front-matrices : ReadsFront matrices_of
unfolding matrices_of base_matrix_of
front-matrices =
    front-then (field 9) _ (front-field 9)
    (λ count. front-if (nat_lt 384 (count + 1)) (λ bits. Err Matrices) (items base_matrix_of (count + 1)) (front-fault Matrices) (front-items base_matrix_of (count + 1) (front-items (field 8) 64 (front-field 8))))

front-index : (n : ℕ) → ReadsFront (matrix_index_of n)
unfolding matrix_index_of
front-index n =
    front-then (field (bit_length (n - 1))) _ (front-field (bit_length (n - 1)))
    (λ index. front-if (nat_lt index n) (λ bits. Ok (index, bits)) (λ bits. Err MatrixIndex) (front-value index) (front-fault MatrixIndex))

front-range : (n left : ℕ) → ReadsFront (range_of n left)
unfolding range_of
front-range n left =
    front-then (field (bit_length (left - 1))) _ (front-field (bit_length (left - 1)))
    (λ size. front-then (matrix_index_of n) _ (front-index n)
    (λ next. front-if (nat_lt left (size + 1)) (λ bits. Err Ramp) (λ bits. Ok (record { size = size + 1; next = next }, bits)) (front-fault Ramp) (front-value (record { size = size + 1; next = next }))))

front-list : (most n left : ℕ) → ReadsFront (list_of most n left)
unfolding list_of
front-list zero n zero = front-value []
front-list (suc most) n zero = front-value []
front-list zero n (suc left) = front-fault Ramp
front-list (suc most) n (suc left) =
    front-then (range_of n (suc left)) _ (front-range n (suc left))
    (λ first. front-then (list_of most n (suc left - first.size)) _ (front-list most n (suc left - first.size)) (λ others. front-value (first ∷ others)))

front-ranges : (n : ℕ) → ReadsFront (ranges_of n)
unfolding ranges_of
front-ranges n =
    front-then (matrix_index_of n) _ (front-index n)
    (λ start. front-then (list_of 63 n 63) _ (front-list 63 n 63) (λ list. front-value (record { start = start; list = list })))

front-copy : (before : Ranges) (plane : Option Ranges) → ReadsFront (copy_of before plane)
unfolding copy_of
front-copy before None = front-value before
front-copy before (Some plane) = front-then (field 1) _ (front-field 1) (λ rpqr. front-value _)

front-pair : (n : ℕ) (before : Ranges) (plane : Option Ranges) → ReadsFront (pair_of n before plane)
unfolding pair_of
front-pair n before plane =
    front-then (field 1) _ (front-field 1) (λ newqr. front-if (nat_eq newqr 1) (ranges_of n) (copy_of before plane) (front-ranges n) (front-copy before plane))

front-pairs : (n : ℕ) → ReadsFront (pairs_of n)
unfolding pairs_of
front-pairs n =
    front-then (ranges_of n) _ (front-ranges n)
    (λ y. front-then (pair_of n y None) _ (front-pair n y None)
    (λ cb. front-then (pair_of n cb None) _ (front-pair n cb None)
    (λ cr. front-then (pair_of n cr (Some y)) _ (front-pair n cr (Some y))
    (λ inter_y. front-then (pair_of n inter_y (Some cb)) _ (front-pair n inter_y (Some cb))
    (λ inter_cb. front-then (pair_of n inter_cb (Some cr)) _ (front-pair n inter_cb (Some cr)) (λ inter_cr. front-value _))))))

pub front-ramps : ReadsFront ramps_of
unfolding ramps_of
front-ramps =
    front-then scales_of _ front-scales
    (λ ac. front-then scales_of _ front-scales
    (λ dc. front-then matrices_of _ front-matrices
    (λ matrices. front-then (pairs_of (length matrices)) _ (front-pairs (length matrices)) (λ six. front-value _))))
