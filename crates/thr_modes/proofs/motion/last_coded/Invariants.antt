use Rattle.std.proofs.Common.{◌≡◌, map, drop}
use Rattle.thr_modes.specs.Vectors.{offset_of}
use Rattle.thr_modes.specs.Motion.{last_coded}
use Rattle.thr_modes.proofs.motion.last_coded.Given as goal

abbrev pub invariant-luma : goal.invariant-luma
invariant-luma l = last_coded (drop l.b l.luma) (drop l.b (map offset_of l.vectors)) (offset_of l.last) ≡ last_coded l.luma (map offset_of l.vectors) (offset_of l.fn.other)
