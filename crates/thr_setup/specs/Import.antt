-- The setup of streams that are made here (own). qi is a quantiser index, k a place of the base matrix in natural order.
use Rattle.std.specs.Prelude.{ℕ, ◌+◌, ◌-◌, ◌*◌, ◌/◌, ◌%◌, List, [], ◌∷◌, map}
use Rattle.std.specs.List.{range_with_len}
use Rattle.thr_quant.specs.Ranges.{Ranges}
use Rattle.thr_quant.specs.Ramps.{Ramps}
use Rattle.thr_setup.specs.Setup.{Contents}
use Rattle.thr_setup.specs.ImportTrees.{import_forest}

-- limits of the loop filter
unfoldable pub import_limits : List ℕ
import_limits = map (λ qi. (63 - qi) / 3) (range_with_len 0 64)

-- scales that fall by so much from one index to the next, to 10 at the last
unfoldable pub even_scales : ℕ → List ℕ
even_scales step = map (λ qi. 10 + step * (63 - qi)) (range_with_len 0 64)

-- the base matrix: in row k / 8 and column k % 8
unfoldable pub import_matrix : List ℕ
import_matrix = map (λ k. 16 + 4 * (k / 8 + k % 8)) (range_with_len 0 64)

-- one range over all indices, with base matrix 0 at both ends
abbrev pub one_range : Ranges
one_range = record { start = 0; list = record { size = 63; next = 0 } ∷ [] }

-- AC and DC scales, one base matrix, and one range for each kind of block in each plane
abbrev pub import_ramps : Ramps
import_ramps = record {
  ac = even_scales 8;
  dc = even_scales 3;
  matrices = import_matrix ∷ [];
  intra = one_range ∷ one_range ∷ one_range ∷ [];
  inter = one_range ∷ one_range ∷ one_range ∷ [];
}

-- all that the setup says
abbrev pub imported : Contents
imported = record { limits = import_limits; ramps = import_ramps; forest = import_forest }
