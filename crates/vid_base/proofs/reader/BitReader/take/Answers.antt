use Rattle.std.proofs.Common.{arith}
use Rattle.vid_base.proofs.NumberLemmas.{none_left, take-of}
use Rattle.vid_base.proofs.PlaceLemmas.{room_left, same_end}
use Rattle.vid_base.proofs.reader.BitReader.take.Goals as goal

pub returns-then-not-has-clause-value : goal.returns-then-not-has-clause-value
returns-then-not-has-clause-value c = none_left c.args.n c.args.self.now.left c.has.result c.has.ensures.1 c.if-not-has.true

pub bits_at-value-requires-clause-there : goal.bits_at-value-requires-clause-there
bits_at-value-requires-clause-there c =
    room_left c.self.inside.bytes.now c.self.inside.at c.self.inside.shift c.args.n (c.self.invariant.2) (rw (← c.self.view_is) at (c.has.ensures.0 c.if-not-has.false))

pub invariant_of-self : goal.invariant_of-self
invariant_of-self c =
    let room = room_left c.self.inside.bytes.now c.self.inside.at c.self.inside.shift c.args.n (c.self.invariant.2) (rw (← c.self.view_is) at (c.has.ensures.0 c.if-not-has.false)) in
    (omega (arith, room), c.bits_at-value.ensures.shift, omega (arith, room))

pub returns-clause-value : goal.returns-clause-value
returns-clause-value c = rw (← c.self.view_is) (take-of c.args.n c.bits_at-value.result.0 _ _ c.bits_at-value.ensures.small c.bits_at-value.ensures.bits)

pub returns-clause-end : goal.returns-clause-end
returns-clause-end c =
    let room = room_left c.self.inside.bytes.now c.self.inside.at c.self.inside.shift c.args.n (c.self.invariant.2) (rw (← c.self.view_is) at (c.has.ensures.0 c.if-not-has.false)) in
    rw (← c.self.view_is) (same_end c.self.inside.bytes.now c.self.inside.at c.self.inside.shift c.bits_at-value.result.1 c.bits_at-value.result.2 (c.self.invariant.2) (omega (arith, room)))
