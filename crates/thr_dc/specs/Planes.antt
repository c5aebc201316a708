-- A plane of a frame as the code holds it (own).
use Rattle.std.specs.Prelude.{ℕ, ◌≡◌, ◌<◌, ◌+◌, ◌-◌, ◌*◌, ◌&&◌, nat_lt, ℤ, pos, Bool, List, length, get_or, Option, Some, None, if◌then◌else◌}
use Rattle.vid_base.specs.declared.shape.Shape.{Shape}
use Rattle.thr_dc.specs.declared.plane.CodedBlock.{CodedBlock}
use Rattle.thr_dc.specs.declared.plane.Known.{Known}
use Rattle.thr_dc.specs.declared.plane.Spot.{Spot}
use Rattle.thr_dc.specs.Blocks.{Coded}
use Rattle.thr_dc.specs.Prediction.{last_of}
use Rattle.vid_geom.specs.CodedOrder.{block_columns, order_of, plane_blocks}

-- a plane of a frame of the shape s, and its sizes
pub record IsPlane (s : Shape) (flags : List Bool) (kinds : List ℕ) (pli columns blocks : ℕ) : Type 0 where
  pub number : pli < 3
  pub flags_long : length flags ≡ length (order_of s)
  pub kinds_long : length kinds ≡ length (order_of s)
  pub columns_are : columns ≡ block_columns s pli
  pub blocks_are : blocks ≡ plane_blocks s pli

-- the column and the row of a place in the raster order of a plane that has so many columns
pub record IsAlong (columns place column row : ℕ) : Type 0 where
  pub inside : column < columns
  pub place_is : place ≡ row * columns + column

-- a block of such a plane stands where it is said to stand
abbrev pub IsSpot : ℕ → Spot → Type 0
IsSpot columns spot = IsAlong columns spot.place spot.column spot.row

-- a block as prediction sees it
abbrev pub coded : Option CodedBlock → Option Coded
coded None = None
coded (Some block) = Some (record { kind = block.kind; value = block.value })

-- the block in a column and a row, where there is such a block
abbrev pub found : ℕ → List (Option Coded) → Bool → ℕ → ℕ → Option Coded
found columns blocks there column row = if there then get_or blocks (row * columns + column) None else None

-- the block to the lower right of the one in a column and a row
abbrev pub at_lower_right : ℕ → List (Option Coded) → ℕ → ℕ → Option Coded
at_lower_right columns blocks column row = found columns blocks (nat_lt 0 row && nat_lt (column + 1) columns) (column + 1) (row - 1)

-- these are the other blocks around it
pub record IsKnown (columns : ℕ) (blocks : List (Option Coded)) (column row : ℕ) (known : Known) : Type 0 where
  pub left : coded known.left ≡ found columns blocks (nat_lt 0 column) (column - 1) row
  pub lower_left : coded known.lower_left ≡ found columns blocks (nat_lt 0 column && nat_lt 0 row) (column - 1) (row - 1)
  pub below : coded known.below ≡ found columns blocks (nat_lt 0 row) column (row - 1)

-- the block to the left of one that these are known of
abbrev pub left_of : Option Known → Option Coded
left_of None = None
left_of (Some known) = coded known.left

-- these are the last values of the kinds
abbrev pub AreLast : List (Option Coded) → List ℤ → Type 0
AreLast blocks lasts = (kind : ℕ) → kind < 256 → get_or lasts kind (pos 0) ≡ last_of kind blocks
