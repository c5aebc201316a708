-- How many superblocks, macro blocks and blocks a frame has at most. `write_fields` cites this, so that a packet has fewer bytes than 2^30.
use Rattle.std.proofs.Common.{ℕ, ◌+◌, ◌*◌, ◌/◌, ◌≤◌, Bool, true, false, cond, length, arith}
use Rattle.std.specs.Prelude.{◌==◌}
use Rattle.std.specs.Int.{div_ceil}
use Rattle.std.proofs.Math.Nat.{mul-le-mul_left}
use Rattle.vid_base.specs.declared.shape.Shape.{Shape}
use Rattle.vid_geom.specs.Squares.{squares, squares_across, squares_up}
use Rattle.vid_geom.specs.CodedOrder.{block_columns, block_grid, block_rows, order_of, plane_blocks, superblocks}
use Rattle.vid_geom.specs.MacroBlocks.{columns_in, macro_blocks, rows_in}
use Rattle.vid_geom.proofs.CellLemmas.{length-squares}
use Rattle.vid_geom.proofs.MacroBlockLemmas.{blocks_by_macro_blocks, length-macro_blocks}
use Rattle.vid_geom.proofs.OrderLemmas.{length-order_of}
use Rattle.vid_geom.proofs.SuperblockLemmas.{length-superblocks}

-- squares of four blocks a side are no more than the blocks
quarter : (n : ℕ) → div_ceil n 4 ≤ n
quarter n = omega arith

product : (a b c d : ℕ) → a ≤ c → b ≤ d → a * b ≤ d * c
product a b c d first second = grind arith

plane_few : (s : Shape) (pli : ℕ) → length (squares (block_grid s pli)) ≤ plane_blocks s pli
plane_few s pli =
    omega (
      arith,
      length-squares (block_grid s pli),
      product (squares_up (block_grid s pli)) (squares_across (block_grid s pli)) (block_rows s pli) (block_columns s pli) (quarter (block_rows s pli)) (quarter (block_columns s pli)),
    )

superblocks_few : (s : Shape) → length (superblocks s) ≤ length (order_of s)
superblocks_few s = omega (arith, length-superblocks s, length-order_of s, plane_few s 0, plane_few s 1, plane_few s 2)

-- a macro block has at most 12 blocks
few_in : (pf : ℕ) → columns_in pf 1 * rows_in pf 1 ≤ 4
few_in pf = go (pf == 3) (pf == 0)
  where
    go : (full half : Bool) → (cond full (16 * 1) (8 * 1) / 8) * (cond half (8 * 1) (16 * 1) / 8) ≤ 4
    go true true = omega arith
    go true false = omega arith
    go false true = omega arith
    go false false = omega arith

blocks_few : (n k : ℕ) → k ≤ 4 → n * (4 + 2 * k) ≤ n * 12
blocks_few n k le = mul-le-mul_left n (omega arith)

pub record HasSizes (s : Shape) : Type 0 where
  pub superblocks : length (superblocks s) ≤ 1572864
  pub blocks : length (order_of s) ≤ 1572864
  pub macro_blocks : length (macro_blocks s) ≤ 131072

pub sizes : (s : Shape) → HasSizes s
sizes s =
    let small = s.small in
    let blocks : length (order_of s) ≤ 1572864 = omega (arith, blocks_by_macro_blocks s, blocks_few (s.fmbw * s.fmbh) (columns_in s.pf 1 * rows_in s.pf 1) (few_in s.pf)) in
    record { superblocks = omega (arith, superblocks_few s); blocks = blocks; macro_blocks = omega (arith, length-macro_blocks s) }
