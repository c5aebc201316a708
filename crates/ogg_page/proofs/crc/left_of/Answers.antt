use Rattle.std.proofs.Common.{arith}
use Rattle.ogg_page.proofs.TableLemmas.{entry}
use Rattle.ogg_page.proofs.crc.left_of.Goals as goal

pub returns : goal.returns
returns c = rw c.from.ensures (entry c.args.behind c.args.byte c.requires (omega arith))
