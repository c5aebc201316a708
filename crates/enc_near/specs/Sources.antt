-- (private) What the coefficients of a frame are made from, as the code holds it (own).
use Rattle.std.specs.Prelude.{ℕ, ◌<◌, ℤ, List, [], map, get_or}
use Rattle.vid_geom.specs.declared.block.Block.{Block}
use Rattle.vid_geom.specs.CodedOrder.{IsBlock, place_of}
use Rattle.thr_modes.specs.Vectors.{offset_of, still}
use Rattle.thr_dct.specs.Forward.{forward_of}
use Rattle.thr_frame.specs.Rebuilt.{Pair}
use Rattle.enc_search.specs.Searched.{block_samples}
use Rattle.enc_near.specs.declared.sources.Sources.{Sources}
use Rattle.enc_near.specs.Near.{lacking}
use Rattle.enc_near.specs.Made.{AreMade, matrix_place, samples_by}

-- the frames that are predicted from
abbrev pub refs_of : Sources → Pair
refs_of from = record { prev = from.prev.now; golden = from.golden.now }

-- what a block is predicted from: 0 nothing, 1 the previous frame, 2 the golden one
abbrev pub kind_at : Sources → Block → ℕ
kind_at from b = get_or from.kinds.now (place_of from.geom.now b) 0

-- the forward transform of what the prediction of a block lacks
unfoldable pub wanted_by : Sources → Block → List ℤ
wanted_by from b =
    forward_of (lacking (block_samples from.target.now b) (samples_by from.geom.now (refs_of from) (kind_at from b) (get_or (map offset_of from.vectors.now) (place_of from.geom.now b) still) b))

-- the matrix of a block
abbrev pub matrix_by : Sources → Block → List ℕ
matrix_by from b = get_or from.matrices.now (matrix_place (kind_at from b) b.pli) []

-- the coefficients of the blocks before a coded place are made
abbrev pub AreMadeBefore : Sources → ℕ → List (List ℤ) → Type 0
AreMadeBefore from place values = (b : Block) → IsBlock from.geom.now b → place_of from.geom.now b < place → AreMade (wanted_by from b) (matrix_by from b) (get_or values (place_of from.geom.now b) [])
