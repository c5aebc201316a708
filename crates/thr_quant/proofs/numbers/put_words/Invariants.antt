use Rattle.std.proofs.Common.{◌≡◌, ◌++◌, take}
use Rattle.vid_base.specs.Items.{all_digits}
use Rattle.thr_quant.proofs.numbers.put_words.Given as goal

-- the numbers so far stand behind what was there
abbrev pub invariant-loop-number : goal.invariant-loop-number
invariant-loop-number l = l.w ≡ l.fn.w ++ all_digits l.width (take l.number-index l.numbers)
