use Rattle.std.proofs.Common.{IfSome, take}
use Rattle.thr_flags.specs.RunStrings.{Long}
use Rattle.thr_flags.specs.Flags.{sizes_of}
use Rattle.thr_flags.specs.WrittenFlags.{partly_in, parts}
use Rattle.thr_flags.specs.Writing.{Holds, IsRun}
use Rattle.thr_flags.proofs.flag_writing.write_partly.Given as goal

-- the superblocks so far were taken
abbrev pub invariant-superblocks : goal.invariant-superblocks
invariant-superblocks l = record {
  holds : Holds Long l.fn.w l.w (partly_in (take l.s (parts (sizes_of l.geom) l.flags))) l.last;
  run : IfSome l.last (IsRun Long);
}
