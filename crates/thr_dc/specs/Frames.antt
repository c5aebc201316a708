-- The DC values of a frame (Theora I, 7.8). s is the frame's shape; flags, kinds and values have an entry for each block in
-- coded order, and a block's values begin with its DC value.
use Rattle.std.specs.Prelude.{ℕ, ◌≡◌, ◌≤◌, ◌+◌, ◌*◌, ◌/◌, ◌%◌, ℤ, pos, unsigned_abs, Bool, true, false, List, [], length, map, set, get_or, Option, Some, None, if◌then◌else◌}
use Rattle.std.specs.List.{range_with_len}
use Rattle.vid_base.specs.declared.shape.Shape.{Shape}
use Rattle.vid_geom.specs.declared.block.Block.{Block}
use Rattle.vid_geom.specs.CodedOrder.{block_columns, order_of, place_of, plane_blocks}
use Rattle.thr_dc.specs.Blocks.{Coded}

-- the block of a plane in a column and a row
abbrev pub block_at : ℕ → ℕ → ℕ → Block
block_at pli column row = record { pli = pli; col = column; row = row }

-- the block of a plane at a place in raster order from the lower left
unfoldable pub raster_block : Shape → ℕ → ℕ → Block
raster_block s pli place = block_at pli (place % block_columns s pli) (place / block_columns s pli)

-- where a block stands in the raster order of its plane
unfoldable pub raster_place : Shape → Block → ℕ
raster_place s b = b.row * block_columns s b.pli + b.col

-- the DC value of the block at a coded place, if it is coded
unfoldable pub dc_at : List Bool → List ℕ → List (List ℤ) → ℕ → Option Coded
dc_at flags kinds values place = if get_or flags place false then Some (record { kind = get_or kinds place 0; value = get_or (get_or values place []) 0 (pos 0) }) else None

-- a plane's blocks in raster order
unfoldable pub plane_of : Shape → List Bool → List ℕ → List (List ℤ) → ℕ → List (Option Coded)
plane_of s flags kinds values pli = map (λ place. dc_at flags kinds values (place_of s (raster_block s pli place))) (range_with_len 0 (plane_blocks s pli))

-- a coded block's values with this DC value
abbrev pub with_dc : Option Coded → List ℤ → List ℤ
with_dc None values = values
with_dc (Some dc) values = set values 0 dc.value

-- the values of a frame with the DC values that f makes of each plane
unfoldable pub with_planes : (ℕ → List (Option Coded) → List (Option Coded)) → Shape → List Bool → List ℕ → List (List ℤ) → List (List ℤ)
with_planes f s flags kinds values =
    map (λ b. with_dc (get_or (f (block_columns s b.pli) (plane_of s flags kinds values b.pli)) (raster_place s b) None) (get_or values (place_of s b) [])) (order_of s)

-- the DC values of the coded blocks are at most n large
abbrev pub IsWithin : ℕ → List Bool → List (List ℤ) → Type 0
IsWithin n flags values = (place : ℕ) → get_or flags place false ≡ true → unsigned_abs (get_or (get_or values place []) 0 (pos 0)) ≤ n

-- nothing changes but DC values of coded blocks
pub record ChangesDc (flags : List Bool) (old new : List (List ℤ)) : Type 0 where
  pub long : length new ≡ length old
  pub only_dc : (place : ℕ) → get_or new place [] ≡ set (get_or old place []) 0 (get_or (get_or new place []) 0 (pos 0))
  pub uncoded : (place : ℕ) → get_or flags place false ≡ false → get_or new place [] ≡ get_or old place []
