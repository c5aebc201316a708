use Rattle.std.proofs.Common.{◌≡◌, List, length}
use Rattle.vid_base.specs.Reading.{SameEnd}
use Rattle.thr_token.specs.Checking.{Stands}
use Rattle.thr_token.specs.Coefficients.{Progress, token_in}
use Rattle.thr_token.specs.Views.{as_numbers}
use Rattle.thr_token.proofs.CheckingLemmas.{IsMidway}
use Rattle.thr_token.proofs.trees.PlaceTrees.check_kind.Given as goal

-- whatever blocks stand at the place, so many of them were asked
abbrev pub invariant-turns : goal.invariant-turns
invariant-turns l = record {
  end : SameEnd l.fn.r l.bits;
  long : length l.waits ≡ 64;
  midway : (before blocks behind : List Progress) → Stands l.self.place l.luma l.fn.waits l.fn.unended before blocks behind
      → IsMidway (token_in l.self.all.forest.now (as_numbers l.self.all.numbers)) l.self.place l.luma l.counter before blocks behind l.fn.run l.fn.r.left l.waits l.unended l.run l.bits.left;
}
