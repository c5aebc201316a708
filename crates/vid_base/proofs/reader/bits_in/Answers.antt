use Rattle.std.proofs.Common.{arith}
use Rattle.std.proofs.Math.Nat.{mod-lt}
use Rattle.vid_base.proofs.WordLemmas.{word-fits, word-front, word-small}
use Rattle.vid_base.proofs.reader.bits_in.Goals as goal

pub overflow_cast-result-3 : goal.overflow_cast-result-3
overflow_cast-result-3 c = record { fits = word-fits _ c.args.n (mod-lt _ (omega arith)) c.requires.n }

pub returns-clause-bits : goal.returns-clause-bits
returns-clause-bits c = word-front c.args.word c.args.shift c.args.n c.requires.shift c.requires.n

pub returns-clause-small : goal.returns-clause-small
returns-clause-small c = word-small _ c.args.n (mod-lt _ (omega arith)) c.requires.n
