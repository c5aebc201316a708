use Rattle.std.proofs.Common.{◌+◌, arith}
use Rattle.vid_base.proofs.PlaceLemmas.{left_none, bit_last, bit_within, same_end}
use Rattle.vid_base.proofs.reader.BitReader.bit.Goals as goal

pub returns-then-self-clause-value : goal.returns-then-self-clause-value
returns-then-self-clause-value c =
    let none = left_none c.self.inside.bytes.now c.self.inside.at c.self.inside.shift (omega arith) (omega arith) in
    (rw (← c.self.view_is) none, rw (← c.self.view_is) none)

pub returns-then-self-eq7-clause-value : goal.returns-then-self-eq7-clause-value
returns-then-self-eq7-clause-value c = rw (← c.self.view_is) (bit_last c.self.inside.bytes.now c.self.inside.at c.self.inside.shift (omega arith) (omega arith))

pub returns-else-self-eq7-clause-value : goal.returns-else-self-eq7-clause-value
returns-else-self-eq7-clause-value c = rw (← c.self.view_is) (bit_within c.self.inside.bytes.now c.self.inside.at c.self.inside.shift (omega arith) (omega arith))

pub returns-then-self-eq7-clause-end : goal.returns-then-self-eq7-clause-end
returns-then-self-eq7-clause-end c = rw (← c.self.view_is) (same_end c.self.inside.bytes.now c.self.inside.at c.self.inside.shift (c.self.inside.at + 1) 0 (c.self.invariant.2) (omega arith))

pub returns-else-self-eq7-clause-end : goal.returns-else-self-eq7-clause-end
returns-else-self-eq7-clause-end c = rw (← c.self.view_is) (same_end c.self.inside.bytes.now c.self.inside.at c.self.inside.shift c.self.inside.at (c.self.inside.shift + 1) (c.self.invariant.2) (omega arith))
