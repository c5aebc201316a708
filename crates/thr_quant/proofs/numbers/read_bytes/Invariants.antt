use Rattle.std.proofs.Common.{◌≡◌, ◌-◌, ◌^◌, ◌<◌, ℕ, length, get_or, take}
use Rattle.vid_base.specs.Items.{items, with_front}
use Rattle.vid_base.specs.Reading.{field, SameEnd}
use Rattle.thr_quant.proofs.numbers.read_bytes.Given as goal

-- the numbers so far, and then those that are still read, are all numbers
abbrev pub invariant-loop-number : goal.invariant-loop-number
invariant-loop-number l = record {
  long : length l.number-items ≡ 64;
  read : with_front (take l.number-index l.number-items) (items (field l.width) (64 - l.number-index) l.r.left) ≡ items (field l.width) 64 l.fn.r.left;
  small : (k : ℕ) → k < l.number-index → get_or l.number-items k 0 < 2 ^ l.width;
  end : SameEnd l.fn.r l.r;
}
