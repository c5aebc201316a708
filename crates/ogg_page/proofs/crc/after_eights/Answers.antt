use Rattle.std.proofs.Common.{arith}
use Rattle.ogg_page.proofs.StepLemmas.{GoesOn-nil, GoesOn-list}
use Rattle.ogg_page.proofs.crc.after_eights.Goals as goal

pub eights-init : goal.eights-init
eights-init c = GoesOn-nil c.args.crc

pub eights-preserved : goal.eights-preserved
eights-preserved c = GoesOn-list c.args.crc c.eights.crc c.after_eight-crc.result c.eights.eight-index c.args.eights.now (omega arith) c.eights.invariant c.after_eight-crc.ensures
