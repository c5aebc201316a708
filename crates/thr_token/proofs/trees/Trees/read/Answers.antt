use Rattle.std.proofs.Common.{arith}
use Rattle.vid_geom.proofs.MacroBlockLemmas.{plane_blocks_is}
use Rattle.thr_token.proofs.trees.Trees.read.Goals as goal

pub invariant_of-result-clause-lumas_are : goal.invariant_of-result-clause-lumas_are
invariant_of-result-clause-lumas_are c = omega (arith, plane_blocks_is c.args.geom.now 0, c.macro_blocks.ensures.product)
