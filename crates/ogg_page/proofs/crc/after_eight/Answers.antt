use Rattle.std.proofs.Common.{ap, ◌∙◌, bit_xor, arith}
use Rattle.std.specs.Int.{w32, to_be_bytes}
use Rattle.ogg_page.proofs.StepLemmas.{GoesOn-eight}
use Rattle.ogg_page.proofs.crc.after_eight.Goals as goal

pub returns : goal.returns
returns c =
    GoesOn-eight c.args.crc c.left_of-8.result c.left_of-7.result c.left_of-6.result c.left_of-5.result c.left_of-4.result c.left_of-3.result c.left_of-2.result c.left_of.result
    c.args.bytes.now c.to_be_bytes.result (omega arith) c.fits-bytes (c.to_be_bytes.ensures ∙ ap (λ n. to_be_bytes w32 (bit_xor c.args.crc n)) c.from_be_bytes.ensures) c.left_of-8.ensures c.left_of-7.ensures c.left_of-6.ensures c.left_of-5.ensures
    c.left_of-4.ensures c.left_of-3.ensures c.left_of-2.ensures c.left_of.ensures
