use Rattle.std.proofs.Common.{arith}
use Rattle.ogg_page.proofs.StepLemmas.{GoesOn-nil, GoesOn-more}
use Rattle.ogg_page.proofs.crc.after_bytes.Goals as goal

pub bytes-init : goal.bytes-init
bytes-init c = GoesOn-nil c.args.crc

pub bytes-preserved : goal.bytes-preserved
bytes-preserved c = GoesOn-more c.args.crc c.bytes.crc c.after_byte-crc.result c.bytes.byte-index c.args.bytes.now (omega arith) c.bytes.invariant c.after_byte-crc.ensures
