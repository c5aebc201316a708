use Rattle.std.proofs.Common.{sym}
use Rattle.vid_geom.proofs.MacroBlockLemmas.{length-macro_blocks, macro_order_names_each_once}
use Rattle.vid_geom.proofs.ByBlockLemmas.{macro_place_is}
use Rattle.vid_geom.proofs.geom.Geom.macro_blocks.Goals as goal

pub returns-clause-value : goal.returns-clause-value
returns-clause-value c = rw (c.from.ensures, c.from-2.ensures, c.self.view_is) (sym (length-macro_blocks c.args.self.now))

pub returns-clause-each_once : goal.returns-clause-each_once
returns-clause-each_once c = macro_order_names_each_once c.args.self.now

pub returns-clause-own : goal.returns-clause-own
returns-clause-own c = macro_place_is c.args.self.now
