use Rattle.std.proofs.Common.{◌≡◌, ◌++◌, Bool, List, drop}
use Rattle.thr_modes.specs.LumaFlags.{macro_flags}
use Rattle.thr_modes.specs.Written.{modes_code}
use Rattle.thr_modes.proofs.modes.write_macro_modes.Given as goal

abbrev pub invariant-macro_blocks : goal.invariant-macro_blocks
invariant-macro_blocks l = record {
  written : l.w ++ modes_code (drop l.m (macro_flags l.geom l.flags)) (drop l.m l.modes) ≡ l.fn.w ++ modes_code (macro_flags l.geom l.flags) l.modes;
  more : (more : List Bool) × (l.w ≡ l.fn.w ++ more);
}
