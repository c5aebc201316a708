use Rattle.std.proofs.Common.{◌≡◌, ◌++◌, Bool, List, map, drop}
use Rattle.thr_modes.specs.LumaFlags.{macro_flags}
use Rattle.thr_modes.specs.Vectors.{offset_of}
use Rattle.thr_modes.specs.WrittenVectors.{motions_code, macro_vectors}
use Rattle.thr_modes.proofs.writing.write_motions.Given as goal

abbrev pub invariant-macro_blocks : goal.invariant-macro_blocks
invariant-macro_blocks l = record {
  written : l.w ++ motions_code (drop l.m l.modes) (drop l.m (macro_flags l.geom l.flags)) (drop l.m (macro_vectors l.geom (map offset_of l.vectors)))
      ≡ l.fn.w ++ motions_code l.modes (macro_flags l.geom l.flags) (macro_vectors l.geom (map offset_of l.vectors));
  more : (more : List Bool) × (l.w ≡ l.fn.w ++ more);
}
