use Rattle.std.proofs.Common.{ap, sym}
use Rattle.vid_base.specs.Bits.{number_in}
use Rattle.vid_base.proofs.NumberLemmas.{none_left, take-of}
use Rattle.vid_base.proofs.PlaceLemmas.{room_left}
use Rattle.vid_base.proofs.reader.BitReader.peek.Goals as goal

pub returns-then-not-has-clause-value : goal.returns-then-not-has-clause-value
returns-then-not-has-clause-value c = sym (ap number_in (none_left c.args.n c.args.self.now.left c.has.result c.has.ensures.1 c.if-not-has.true))

pub bits_at-value-requires-clause-there : goal.bits_at-value-requires-clause-there
bits_at-value-requires-clause-there c =
    room_left c.self.inside.bytes.now c.self.inside.at c.self.inside.shift c.args.n (c.self.invariant.2) (rw (← c.self.view_is) at (c.has.ensures.0 c.if-not-has.false))

pub returns-clause-value : goal.returns-clause-value
returns-clause-value c = rw (← c.self.view_is) (sym (ap number_in (take-of c.args.n c.bits_at-value.result.0 _ _ c.bits_at-value.ensures.small c.bits_at-value.ensures.bits)))
