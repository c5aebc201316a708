use Rattle.std.proofs.Common.{◌≡◌, map, drop, Ok}
use Rattle.vid_base.specs.Reading.{SameEnd, ◌>>=◌}
use Rattle.vid_geom.specs.MacroBlocks.{macro_blocks}
use Rattle.thr_modes.specs.LumaFlags.{macro_flags}
use Rattle.thr_modes.specs.Vectors.{offset_of}
use Rattle.thr_modes.specs.Motion.{motions, coded_vectors}
use Rattle.thr_modes.specs.Placing.{put_all}
use Rattle.thr_modes.specs.Views.{vector_form, memory_of}
use Rattle.thr_modes.proofs.vectors.read_coded_vectors.Given as goal

abbrev pub invariant-macro_blocks : goal.invariant-macro_blocks
invariant-macro_blocks l = record {
  read : motions (vector_form l.coding) l.geom.pf (drop l.m l.modes) (drop l.m (macro_flags l.geom l.flags)) (memory_of l.remembered) l.r.left
      >>= (λ read. Ok (put_all l.geom (map offset_of l.vectors) (drop l.m (macro_blocks l.geom)) read.0, read.1))
      ≡ coded_vectors (vector_form l.coding) l.geom l.flags l.modes l.fn.r.left;
  end : SameEnd l.fn.r l.r;
}
