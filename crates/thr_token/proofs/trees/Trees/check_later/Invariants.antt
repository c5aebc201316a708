use Rattle.std.proofs.Common.{List}
use Rattle.vid_base.specs.Reading.{SameEnd}
use Rattle.thr_token.specs.Checking.{AreWaiting}
use Rattle.thr_token.specs.Coefficients.{Progress, token_in}
use Rattle.thr_token.specs.Views.{as_numbers}
use Rattle.thr_token.proofs.CheckingLemmas.{HaveCome}
use Rattle.thr_token.proofs.trees.Trees.check_later.Given as goal

-- from each place on the blocks go where they go from place 1 on
abbrev pub invariant-places : goal.invariant-places
invariant-places l = record {
  end : SameEnd l.fn.r l.r;
  come : (lumas chromas : List Progress) → AreWaiting 1 l.fn.waiting lumas chromas
      → HaveCome (token_in l.self.forest.now (as_numbers l.self.numbers)) l.place lumas chromas l.fn.run l.fn.r.left l.waiting l.run l.r.left;
}
