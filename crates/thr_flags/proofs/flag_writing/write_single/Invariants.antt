use Rattle.std.proofs.Common.{◌++◌, IfSome, take}
use Rattle.thr_flags.specs.RunStrings.{Short}
use Rattle.thr_flags.specs.Flags.{sizes_of}
use Rattle.thr_flags.specs.WrittenFlags.{single_in, parts}
use Rattle.thr_flags.specs.Writing.{Holds, IsRun}
use Rattle.thr_flags.proofs.flag_writing.write_single.Given as goal

-- the superblocks so far were taken
abbrev pub invariant-superblocks : goal.invariant-superblocks
invariant-superblocks l = record {
  holds : Holds Short l.fn.w l.w (single_in (take l.s (parts (sizes_of l.geom) l.flags))) l.last;
  run : IfSome l.last (IsRun Short);
}

-- and the blocks so far of a partly coded one
abbrev pub invariant-values : goal.invariant-values
invariant-values l = record {
  holds : Holds Short l.fn.w l.w (single_in (take l.s (parts (sizes_of l.geom) l.flags)) ++ take l.coded-index l.part) l.last;
  run : IfSome l.last (IsRun Short);
}
