use Rattle.std.proofs.Common.{◌≡◌, ◌++◌, Bool, List, map, drop}
use Rattle.thr_modes.specs.Vectors.{offset_of}
use Rattle.thr_modes.specs.WrittenVectors.{own_codes}
use Rattle.thr_modes.proofs.writing.write_own_vectors.Given as goal

abbrev pub invariant-luma : goal.invariant-luma
invariant-luma l = record {
  written : l.w ++ own_codes (drop l.b l.luma) (drop l.b (map offset_of l.vectors)) ≡ l.fn.w ++ own_codes l.luma (map offset_of l.vectors);
  more : (more : List Bool) × (l.w ≡ l.fn.w ++ more);
}
