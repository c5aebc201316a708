use Rattle.std.proofs.Common.{◌≡◌, ◌-◌, length, take}
use Rattle.vid_base.specs.Items.{items, with_front}
use Rattle.vid_base.specs.Reading.{field, SameEnd}
use Rattle.thr_quant.proofs.numbers.read_words.Given as goal

-- the numbers so far, and then those that are still read, are all numbers
abbrev pub invariant-loop-number : goal.invariant-loop-number
invariant-loop-number l = record {
  long : length l.number-items ≡ 64;
  read : with_front (take l.number-index l.number-items) (items (field l.width) (64 - l.number-index) l.r.left) ≡ items (field l.width) 64 l.fn.r.left;
  end : SameEnd l.fn.r l.r;
}
