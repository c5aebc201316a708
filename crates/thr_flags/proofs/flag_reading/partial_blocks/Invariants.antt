use Rattle.std.proofs.Common.{◌≡◌, ◌≤◌, length, take}
use Rattle.vid_geom.specs.Squares.{joined}
use Rattle.vid_geom.specs.CodedOrder.{superblocks}
use Rattle.thr_flags.specs.Flags.{partial_blocks, sizes_of}
use Rattle.thr_flags.proofs.flag_reading.partial_blocks.Given as goal

-- the blocks counted so far
abbrev pub invariant-superblocks : goal.invariant-superblocks
invariant-superblocks l = record {
  counted : l.count ≡ partial_blocks (take l.s (sizes_of l.geom)) (take l.s l.partly);
  most : l.count ≤ length (joined (take l.s (superblocks l.geom)));
}
