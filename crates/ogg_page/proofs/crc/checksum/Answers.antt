use Rattle.std.proofs.Common.{sym, arith}
use Rattle.ogg_page.proofs.StepLemmas.{checksum-GoesOn}
use Rattle.ogg_page.proofs.crc.checksum.Goals as goal

pub returns : goal.returns
returns c = sym (checksum-GoesOn c.args.page.now c.from_header.result (omega arith) c.from_header.ensures)
