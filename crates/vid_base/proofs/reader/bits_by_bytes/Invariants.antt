use Rattle.std.proofs.Common.{◌≡◌, ◌+◌, ◌-◌, ◌*◌, ◌^◌, ◌<◌, ◌≤◌, ◌++◌}
use Rattle.vid_base.specs.Bits.{digits}
use Rattle.vid_base.specs.Places.{left_at}
use Rattle.vid_base.proofs.reader.bits_by_bytes.Given as goal

-- the digits of the value so far, and then what is left, are what was there
abbrev pub invariant-pieces : goal.invariant-pieces
invariant-pieces l = record {
  left : l.left ≤ l.n;
  shift : l.bit < 8;
  place : 8 * l.byte + l.bit + l.left ≡ 8 * l.fn.at + l.fn.shift + l.n;
  small : l.value < 2 ^ (l.n - l.left);
  bits : digits (l.n - l.left) l.value ++ left_at l.bytes l.byte l.bit ≡ left_at l.bytes l.fn.at l.fn.shift;
}

abbrev pub decreases-pieces : goal.decreases-pieces
decreases-pieces l = l.left
