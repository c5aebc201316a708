use Rattle.std.proofs.Common.{◌/◌, length}
use Rattle.ogg_page.proofs.StepLemmas.{GoesOn-chunks}
use Rattle.ogg_page.proofs.crc.after.Goals as goal

pub returns : goal.returns
returns c = GoesOn-chunks c.args.crc c.after_eights.result c.after_bytes.result (length c.args.bytes.now / 8) c.args.bytes.now
    (rw c.as_chunks.ensures.front at c.after_eights.ensures) (rw c.as_chunks.ensures.back at c.after_bytes.ensures)
