use Rattle.std.proofs.Common.{IfSome, take}
use Rattle.thr_flags.specs.Writing.{Holds, IsRun}
use Rattle.thr_flags.specs.Views.{run_form}
use Rattle.thr_flags.proofs.writing.write_string.Given as goal

-- the values so far were taken
abbrev pub invariant-values : goal.invariant-values
invariant-values l = record {
  holds : Holds (run_form l.code) l.fn.w l.w (take l.value-index l.bits) l.last;
  run : IfSome l.last (IsRun (run_form l.code));
}
