use Rattle.std.proofs.Common.{◌≡◌, ◌++◌, not, length, take, drop}
use Rattle.std.specs.List.{count_by}
use Rattle.vid_geom.specs.Squares.{joined}
use Rattle.vid_geom.specs.CodedOrder.{superblocks}
use Rattle.thr_flags.specs.Flags.{partial_blocks, sizes_of, spread}
use Rattle.thr_flags.proofs.flag_reading.spread.Given as goal

-- the flags that were set, and what the rest of the strings says, are all
abbrev pub invariant-superblocks : goal.invariant-superblocks
invariant-superblocks l = record {
  same : take (length (joined (take l.s (superblocks l.geom)))) l.flags ++ spread (drop l.s (sizes_of l.geom)) (drop l.s l.partly) (drop l.fully_at l.fully) (drop l.single_at l.single) ≡ spread (sizes_of l.geom) l.partly l.fully l.single;
  fully_is : l.fully_at ≡ count_by not (take l.s l.partly);
  single_is : l.single_at ≡ partial_blocks (take l.s (sizes_of l.geom)) (take l.s l.partly);
}
