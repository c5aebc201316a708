use Rattle.std.proofs.Common.{arith}
use Rattle.vid_base.proofs.WordLemmas.{left_word}
use Rattle.vid_base.proofs.reader.bits_at.Goals as goal

pub returns-in-Some-clause-bits : goal.returns-in-Some-clause-bits
returns-in-Some-clause-bits c =
    left_word c.args.bytes.now c.args.at c.args.shift c.args.n c.in-Some.word c.bits_in.result _ _ c.in-Some.ensures.there c.requires.shift c.requires.n c.in-Some.ensures.bits c.bits_in.ensures.bits (omega arith)
