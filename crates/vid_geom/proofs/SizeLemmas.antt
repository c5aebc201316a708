-- How many blocks a plane and a macro block have across and upwards. Geom, the lemmas on macro blocks and the layers above
-- cite these.
use Rattle.std.proofs.Common.{◌≡◌, ℕ, ◌*◌, ◌/◌, ◌<◌, ◌≤◌, Bool, true, false, ◌||◌, ◌==◌, if◌then◌else◌, arith, lit<, lit≤}
use Rattle.std.proofs.lemmas.Nat.{mul-le}
use Rattle.vid_base.specs.declared.shape.Shape.{Shape}
use Rattle.vid_base.specs.Sizes.{plane_width, plane_height}
use Rattle.vid_geom.specs.CodedOrder.{block_columns, block_rows, block_grid}
use Rattle.vid_geom.specs.Tables.{IsSmall}
use Rattle.vid_geom.specs.MacroBlocks.{columns_in, rows_in}

-- a plane has the blocks of its macro blocks
pub block_columns_is : (s : Shape) (pli : ℕ) → block_columns s pli ≡ columns_in s.pf pli * s.fmbw
block_columns_is s pli = go (pli == 0 || s.pf == 3)
  where
    go : (b : Bool) → (if b then 16 * s.fmbw else 8 * s.fmbw) / 8 ≡ (if b then 16 * 1 else 8 * 1) / 8 * s.fmbw
    go true = omega arith
    go false = omega arith

pub block_rows_is : (s : Shape) (pli : ℕ) → block_rows s pli ≡ rows_in s.pf pli * s.fmbh
block_rows_is s pli = go (pli == 0) (s.pf == 0)
  where
    go : (a b : Bool) → (if a then 16 * s.fmbh else if b then 8 * s.fmbh else 16 * s.fmbh) / 8 ≡ (if a then 16 * 1 else if b then 8 * 1 else 16 * 1) / 8 * s.fmbh
    go true b = omega arith
    go false true = omega arith
    go false false = omega arith

-- a macro block has blocks in each plane
pub columns_positive : (pf pli : ℕ) → 0 < columns_in pf pli
columns_positive pf pli = go (pli == 0 || pf == 3)
  where
    go : (b : Bool) → 0 < (if b then 16 * 1 else 8 * 1) / 8
    go true = lit< tt
    go false = lit< tt

pub rows_positive : (pf pli : ℕ) → 0 < rows_in pf pli
rows_positive pf pli = go (pli == 0) (pf == 0)
  where
    go : (a b : Bool) → 0 < (if a then 16 * 1 else if b then 8 * 1 else 16 * 1) / 8
    go true b = lit< tt
    go false true = lit< tt
    go false false = lit< tt

pub columns_most : (pf pli : ℕ) → columns_in pf pli ≤ 2
columns_most pf pli = go (pli == 0 || pf == 3)
  where
    go : (b : Bool) → (if b then 16 * 1 else 8 * 1) / 8 ≤ 2
    go true = lit≤ tt
    go false = lit≤ tt

pub rows_most : (pf pli : ℕ) → rows_in pf pli ≤ 2
rows_most pf pli = go (pli == 0) (pf == 0)
  where
    go : (a b : Bool) → (if a then 16 * 1 else if b then 8 * 1 else 16 * 1) / 8 ≤ 2
    go true b = lit≤ tt
    go false true = lit≤ tt
    go false false = lit≤ tt

-- a block is 8 samples wide and high
pub plane_width_is : (s : Shape) (pli : ℕ) → plane_width s.fmbw s.pf pli ≡ 8 * block_columns s pli
plane_width_is s pli = go (pli == 0 || s.pf == 3)
  where
    go : (b : Bool) → (if b then 16 * s.fmbw else 8 * s.fmbw) ≡ 8 * ((if b then 16 * s.fmbw else 8 * s.fmbw) / 8)
    go true = omega arith
    go false = omega arith

pub plane_height_is : (s : Shape) (pli : ℕ) → plane_height s.fmbh s.pf pli ≡ 8 * block_rows s pli
plane_height_is s pli = go (pli == 0) (s.pf == 0)
  where
    go : (a b : Bool) → (if a then 16 * s.fmbh else if b then 8 * s.fmbh else 16 * s.fmbh) ≡ 8 * ((if a then 16 * s.fmbh else if b then 8 * s.fmbh else 16 * s.fmbh) / 8)
    go true b = omega arith
    go false true = omega arith
    go false false = omega arith

-- the grids of a shape are small
product_small : (w h : ℕ) → 0 < w → 0 < h → w * h ≤ 131072 → (w ≤ 131072) × (h ≤ 131072)
product_small w h a b e = (omega (arith, mul-le w 1 w h (omega arith) (omega arith)), omega (arith, mul-le 1 h w h (omega arith) (omega arith)))

pub block_grid_small : (s : Shape) (pli : ℕ) → IsSmall (block_grid s pli)
block_grid_small s pli =
    let each = product_small s.fmbw s.fmbh s.wide s.high s.small in
    let columns = columns_most s.pf pli in
    let rows = rows_most s.pf pli in
    rw (block_columns_is s pli, block_rows_is s pli) (
      omega (arith, mul-le (columns_in s.pf pli) s.fmbw 2 131072 columns each.0),
      omega (arith, mul-le (rows_in s.pf pli) s.fmbh 2 131072 rows each.1),
      (let m = mul-le (columns_in s.pf pli * rows_in s.pf pli) (s.fmbw * s.fmbh) (2 * 2) 131072 (mul-le (columns_in s.pf pli) (rows_in s.pf pli) 2 2 columns rows) s.small in grind arith),
    )
