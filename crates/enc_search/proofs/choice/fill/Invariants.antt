use Rattle.std.proofs.Common.{map}
use Rattle.thr_modes.specs.Vectors.{offset_of}
use Rattle.enc_search.specs.Views.{memory_of, refs_of}
use Rattle.enc_search.proofs.ChoiceLemmas.{AreFirst}
use Rattle.enc_search.proofs.choice.fill.Given as goal

abbrev pub invariant-macro_blocks : goal.invariant-macro_blocks
invariant-macro_blocks l = AreFirst l.frames.geom.now (refs_of l.frames) l.frames.target.now l.modes.items (memory_of l.remembered) (map offset_of l.vectors) l.m
