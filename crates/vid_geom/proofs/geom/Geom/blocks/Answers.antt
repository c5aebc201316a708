use Rattle.std.proofs.Common.{◌∙◌, arith}
use Rattle.vid_geom.proofs.OrderLemmas.{length-order_of, order_names_each_once}
use Rattle.vid_geom.proofs.MacroBlockLemmas.{blocks_by_macro_blocks}
use Rattle.vid_geom.proofs.geom.Geom.blocks.Goals as goal

pub returns-clause-value : goal.returns-clause-value
returns-clause-value c = rw (c.blocks-2.ensures.value, c.blocks-3.ensures.value, c.self.invariant.luma_is, c.self.invariant.chroma_is, c.self.view_is) (omega (arith, length-order_of c.args.self.now))

pub returns-clause-macro_blocks : goal.returns-clause-macro_blocks
returns-clause-macro_blocks c = returns-clause-value c ∙ blocks_by_macro_blocks c.args.self.now

pub returns-clause-each_once : goal.returns-clause-each_once
returns-clause-each_once c = order_names_each_once c.args.self.now
