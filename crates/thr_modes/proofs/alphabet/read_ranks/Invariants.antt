use Rattle.std.proofs.Common.{◌≡◌, ◌-◌, length, take}
use Rattle.vid_base.specs.Reading.{SameEnd, field}
use Rattle.vid_base.specs.Items.{items, with_front}
use Rattle.thr_modes.proofs.alphabet.read_ranks.Given as goal

abbrev pub invariant-ranks : goal.invariant-ranks
invariant-ranks l = record {
  read : with_front (take l.mode l.ranks) (items (field 3) (8 - l.mode) l.r.left) ≡ items (field 3) 8 l.fn.r.left;
  long : length l.ranks ≡ 8;
  end : SameEnd l.fn.r l.r;
}
