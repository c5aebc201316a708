use Rattle.std.proofs.Common.{arith}
use Rattle.vid_geom.proofs.SuperblockLemmas.{length-superblocks, superblocks_small}
use Rattle.vid_geom.proofs.geom.Geom.superblocks.Goals as goal

pub returns-clause-value : goal.returns-clause-value
returns-clause-value c = rw (c.squares.ensures.value, c.squares-2.ensures.value, c.grid.ensures.value, c.grid-2.ensures.value, c.self.invariant.luma_is, c.self.invariant.chroma_is, c.self.view_is) (omega (arith, length-superblocks c.args.self.now))

pub returns-clause-size : goal.returns-clause-size
returns-clause-size c = superblocks_small c.args.self.now
