use Rattle.std.proofs.Common.{◌≡◌, ◌+◌, ◌-◌, ◌/◌, ◌≤◌, ◌++◌, vec_len, vec_capacity}
use Rattle.vid_base.specs.Bits.{bits_of, digits}
use Rattle.vid_base.proofs.writer.add_bytes.Given as goal

-- the bytes, and then the digits that are left, are what was there and all digits; what is left has its room
abbrev pub invariant-loop-left : goal.invariant-loop-left
invariant-loop-left l = record {
  written : bits_of l.bytes.items ++ digits l.left l.bits ≡ bits_of l.fn.bytes.items ++ digits l.count l.bits;
  bound : l.left ≤ l.count;
  room : vec_len l.bytes + (l.left + 7) / 8 ≤ vec_capacity l.bytes;
}

abbrev pub decreases-loop-left : goal.decreases-loop-left
decreases-loop-left l = l.left + 1 - 8
