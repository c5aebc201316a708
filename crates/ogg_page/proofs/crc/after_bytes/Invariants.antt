use Rattle.std.proofs.Common.{take}
use Rattle.ogg_page.specs.Division.{GoesOn}
use Rattle.ogg_page.proofs.crc.after_bytes.Given as goal

-- the remainder behind the bytes that were read
abbrev pub invariant-bytes : goal.invariant-bytes
invariant-bytes l = GoesOn l.fn.crc (take l.byte-index l.bytes) l.crc
