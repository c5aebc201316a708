-- The quantisers of a stream: scales, base matrices, and the ranges of each kind of block in each plane (Theora I, 6.4.2).
-- n counts base matrices. Ranges are those of intra blocks in Y, Cb and Cr, then those of inter blocks in Y, Cb and Cr.
use Rattle.std.specs.Prelude.{◌≡◌, ℕ, ◌+◌, ◌-◌, ◌^◌, ◌<◌, ◌==◌, max, Bool, true, false, List, [], ◌∷◌, ◌++◌, length, Option, Some, None, Result, Ok, Err, nat_lt, if◌then◌else◌}
use Rattle.std.specs.List.{All}
use Rattle.vid_base.specs.declared.fault.PacketFault.{PacketFault}
use Rattle.vid_base.specs.declared.fault.PacketFault.TheVariants.{Matrices}
use Rattle.vid_base.specs.Bits.{digits}
use Rattle.vid_base.specs.Items.{items, all_digits}
use Rattle.vid_base.specs.Reading.{field, ◌>>=◌}
use Rattle.thr_quant.specs.Limits.{width_of}
use Rattle.thr_quant.specs.Ranges.{Ranges, AreWhole, IsMatrixCount, NameMatrices, ranges_of, ranges_bits, same_ranges}

-- what a clause sees of the quantisers
pub record Ramps : Type 0 where
  pub ac : List ℕ
  pub dc : List ℕ
  pub matrices : List (List ℕ)
  pub intra : List Ranges
  pub inter : List Ranges

-- there are base matrices, 384 at most, and each index of each range names one of them
pub record AreComplete (n : ℕ) (intra inter : List Ranges) : Type 0 where
  pub count : IsMatrixCount n
  pub intra_named : All (NameMatrices n) intra
  pub inter_named : All (NameMatrices n) inter

-- scales that a setup header can say: one of 16 bits at most for each quantiser index
pub record AreScales (numbers : List ℕ) : Type 0 where
  pub count : length numbers ≡ 64
  pub small : All (λ v. v < 2 ^ 16) numbers

-- 64 bytes
pub record IsBaseMatrix (matrix : List ℕ) : Type 0 where
  pub count : length matrix ≡ 64
  pub bytes : All (λ v. v < 2 ^ 8) matrix

-- ranges of all planes, each leading from index 0 to 63 and naming some of n base matrices
pub record AreOfPlanes (n : ℕ) (list : List Ranges) : Type 0 where
  pub planes : length list ≡ 3
  pub whole : All (λ ranges. AreWhole ranges.list) list
  pub named : All (NameMatrices n) list

-- quantisers that a setup header can say
pub record IsRamps (ramps : Ramps) : Type 0 where
  pub ac : AreScales ramps.ac
  pub dc : AreScales ramps.dc
  pub count : IsMatrixCount (length ramps.matrices)
  pub matrices : All IsBaseMatrix ramps.matrices
  pub intra : AreOfPlanes (length ramps.matrices) ramps.intra
  pub inter : AreOfPlanes (length ramps.matrices) ramps.inter

-- NBITS less 1 in 4 bits, and 64 scales of so many bits
unfoldable pub scales_of : List Bool → Result (List ℕ × List Bool) PacketFault
scales_of bits = do
  width ← field 4 bits
  items (field (width.0 + 1)) 64 width.1

-- a base matrix: 64 bytes, row by row
unfoldable pub base_matrix_of : List Bool → Result (List ℕ × List Bool) PacketFault
base_matrix_of bits = items (field 8) 64 bits

-- NBMS less 1 in 9 bits, and so many base matrices, 384 at most
unfoldable pub matrices_of : List Bool → Result (List (List ℕ) × List Bool) PacketFault
matrices_of bits = do
  count ← field 9 bits
  if nat_lt 384 (count.0 + 1) then Err Matrices else items base_matrix_of (count.0 + 1) count.1

-- the number of base matrices, where it is not too great
unfoldable pub matrices_front : List Bool → Result (ℕ × List Bool) PacketFault
matrices_front bits = do
  count ← field 9 bits
  if nat_lt 384 (count.0 + 1) then Err Matrices else Ok count

-- what stands before the base matrices: the scales, and the number of base matrices. No memory is taken before
unfoldable pub ramps_front : List Bool → Result (ℕ × List Bool) PacketFault
ramps_front bits = do
  ac ← scales_of bits
  dc ← scales_of ac.1
  matrices_front dc.1

-- a copy: of the pair before, or, where RPQR is 1, of the intra ranges of the same plane; RPQR is read for inter blocks alone
unfoldable pub copy_of : Ranges → Option Ranges → List Bool → Result (Ranges × List Bool) PacketFault
copy_of before None bits = Ok (before, bits)
copy_of before (Some same_plane) bits = do
  rpqr ← field 1 bits
  Ok (if rpqr.0 == 1 then same_plane else before, rpqr.1)

-- a pair of a kind of block and a plane: where NEWQR is 1 it has ranges of its own, else a copy
unfoldable pub pair_of : ℕ → Ranges → Option Ranges → List Bool → Result (Ranges × List Bool) PacketFault
pair_of n before same_plane bits = do
  newqr ← field 1 bits
  if newqr.0 == 1 then ranges_of n newqr.1 else copy_of before same_plane newqr.1

-- the ranges of all six pairs; the first are always its own
unfoldable pub pairs_of : ℕ → List Bool → Result ((List Ranges × List Ranges) × List Bool) PacketFault
pairs_of n bits = do
  intra_y ← ranges_of n bits
  intra_cb ← pair_of n intra_y.0 None intra_y.1
  intra_cr ← pair_of n intra_cb.0 None intra_cb.1
  inter_y ← pair_of n intra_cr.0 (Some intra_y.0) intra_cr.1
  inter_cb ← pair_of n inter_y.0 (Some intra_cb.0) inter_y.1
  inter_cr ← pair_of n inter_cb.0 (Some intra_cr.0) inter_cb.1
  Ok ((intra_y.0 ∷ intra_cb.0 ∷ intra_cr.0 ∷ [], inter_y.0 ∷ inter_cb.0 ∷ inter_cr.0 ∷ []), inter_cr.1)

-- the quantisers in the order in which they are read
unfoldable pub ramps_of : List Bool → Result (Ramps × List Bool) PacketFault
ramps_of bits = do
  ac ← scales_of bits
  dc ← scales_of ac.1
  matrices ← matrices_of dc.1
  six ← pairs_of (length matrices.0) matrices.1
  Ok (record { ac = ac.0; dc = dc.0; matrices = matrices.0; intra = six.0.0; inter = six.0.1 }, six.1)

-- scales as they are written: in the least width, 1 bit at least
unfoldable pub scales_bits : List ℕ → List Bool
scales_bits numbers = digits 4 (max 1 (width_of numbers) - 1) ++ all_digits (max 1 (width_of numbers)) numbers

-- base matrices as they are written one behind the other
unfoldable pub matrix_list_bits : List (List ℕ) → List Bool
matrix_list_bits [] = []
matrix_list_bits (matrix ∷ list) = all_digits 8 matrix ++ matrix_list_bits list

-- base matrices as they are written: behind their number
unfoldable pub matrices_bits : List (List ℕ) → List Bool
matrices_bits list = digits 9 (length list - 1) ++ matrix_list_bits list

-- a pair as it is written: a copy where it can be one, of the same plane's intra ranges if both would do
unfoldable pub pair_bits : ℕ → Ranges → Option Ranges → Ranges → List Bool
pair_bits n before None own = if same_ranges own before then false ∷ [] else true ∷ ranges_bits n own
pair_bits n before (Some same_plane) own =
    if same_ranges own same_plane then false ∷ true ∷ [] else if same_ranges own before then false ∷ false ∷ [] else true ∷ ranges_bits n own

-- all six pairs as they are written
unfoldable pub pairs_bits : ℕ → List Ranges → List Ranges → List Bool
pairs_bits n (intra_y ∷ intra_cb ∷ intra_cr ∷ []) (inter_y ∷ inter_cb ∷ inter_cr ∷ []) =
    ranges_bits n intra_y
    ++ pair_bits n intra_y None intra_cb
    ++ pair_bits n intra_cb None intra_cr
    ++ pair_bits n intra_cr (Some intra_y) inter_y
    ++ pair_bits n inter_y (Some intra_cb) inter_cb
    ++ pair_bits n inter_cb (Some intra_cr) inter_cr
pairs_bits n intra inter = []

-- the quantisers as they are written
unfoldable pub ramps_bits : Ramps → List Bool
ramps_bits ramps = scales_bits ramps.ac ++ scales_bits ramps.dc ++ matrices_bits ramps.matrices ++ pairs_bits (length ramps.matrices) ramps.intra ramps.inter
