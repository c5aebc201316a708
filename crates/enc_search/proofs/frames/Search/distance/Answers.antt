use Rattle.std.proofs.Common.{arith}
use Rattle.vid_geom.specs.declared.block.Block.{Block}
use Rattle.thr_modes.specs.Vectors.{offset_of}
use Rattle.enc_search.specs.Found.{luma_samples}
use Rattle.enc_search.specs.Views.{refs_of}
use Rattle.enc_search.proofs.SumLemmas.{luma_four}
use Rattle.enc_search.proofs.frames.Search.distance.Goals as goal

none : Block
none = record { pli = 0; col = 0; row = 0 }

pub returns-then-limit-first-clause-past : goal.returns-then-limit-first-clause-past
returns-then-limit-first-clause-past c = λ h.
    let s = c.args.self.now in
    omega (arith, h, c.part-first.ensures.value none, luma_four s.frames.target.now (luma_samples (refs_of s.frames) c.args.mode (offset_of c.args.vector)) s.blocks none s.four)

pub returns-then-limit-second-clause-past : goal.returns-then-limit-second-clause-past
returns-then-limit-second-clause-past c = λ h.
    let s = c.args.self.now in
    omega (arith, h, c.part-first.ensures.value none, c.part.ensures.value none, luma_four s.frames.target.now (luma_samples (refs_of s.frames) c.args.mode (offset_of c.args.vector)) s.blocks none s.four)

pub returns-then-limit-third-clause-past : goal.returns-then-limit-third-clause-past
returns-then-limit-third-clause-past c = λ h.
    let s = c.args.self.now in
    omega (
      arith,
      h,
      c.part-first.ensures.value none,
      c.part.ensures.value none,
      c.part-2.ensures.value none,
      luma_four s.frames.target.now (luma_samples (refs_of s.frames) c.args.mode (offset_of c.args.vector)) s.blocks none s.four,
    )

pub returns-clause-value : goal.returns-clause-value
returns-clause-value c = λ h.
    let s = c.args.self.now in
    omega (
      arith,
      c.part-first.ensures.value none,
      c.part.ensures.value none,
      c.part-2.ensures.value none,
      c.part-3.ensures.value none,
      luma_four s.frames.target.now (luma_samples (refs_of s.frames) c.args.mode (offset_of c.args.vector)) s.blocks none s.four,
    )

pub returns-clause-past : goal.returns-clause-past
returns-clause-past c = λ h.
    let s = c.args.self.now in
    omega (
      arith,
      h,
      c.part-first.ensures.value none,
      c.part.ensures.value none,
      c.part-2.ensures.value none,
      c.part-3.ensures.value none,
      luma_four s.frames.target.now (luma_samples (refs_of s.frames) c.args.mode (offset_of c.args.vector)) s.blocks none s.four,
    )
