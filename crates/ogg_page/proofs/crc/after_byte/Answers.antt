use Rattle.std.proofs.Common.{◌/◌, ◌^◌, ◌<◌, bit_xor, get_or, [], arith}
use Rattle.std.proofs.lemmas.Nat.{xor_of_8}
use Rattle.ogg_page.specs.declared.table.TheConstants.{TABLES}
use Rattle.ogg_page.proofs.TableLemmas.{first_entry}
use Rattle.ogg_page.proofs.StepLemmas.{GoesOn-byte}
use Rattle.ogg_page.proofs.crc.after_byte.Goals as goal

pub returns : goal.returns
returns c =
    let small : bit_xor (c.args.crc / 2 ^ 24) c.args.byte < 2 ^ 8 = xor_of_8 (c.args.crc / 2 ^ 24) c.args.byte (omega arith) (omega arith) in
    rw c.from.ensures (GoesOn-byte c.args.crc c.args.byte (get_or (get_or TABLES 0 []) (bit_xor (c.args.crc / 2 ^ 24) c.args.byte) 0) (first_entry (bit_xor (c.args.crc / 2 ^ 24) c.args.byte) small))
