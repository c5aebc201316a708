use Rattle.std.proofs.Common.{◌≡◌, [], take, drop}
use Rattle.vid_base.specs.Reading.{SameEnd}
use Rattle.thr_token.specs.Coefficients.{at_place, token_in, unended_at}
use Rattle.thr_token.specs.Standing.{lumas_of, standing}
use Rattle.thr_token.specs.Views.{as_numbers}
use Rattle.thr_token.proofs.StandingLemmas.{AreEven}
use Rattle.thr_token.proofs.trees.PlaceTrees.scan.Given as goal

-- the blocks visited so far and those behind them go where all of them go
abbrev pub invariant-order : goal.invariant-order
invariant-order l = record {
  end : SameEnd l.fn.r l.r;
  open_are : l.open ≡ unended_at l.work;
  even : AreEven (lumas_of l.self.all.geom.now) l.work l.values l.counts;
  same : at_place (token_in l.self.all.forest.now (as_numbers l.self.all.numbers)) l.self.place (take l.b (standing (lumas_of l.self.all.geom.now) l.work l.values l.counts)) (drop l.b (standing (lumas_of l.self.all.geom.now) l.work l.values l.counts)) l.run l.r.left
      ≡ at_place (token_in l.self.all.forest.now (as_numbers l.self.all.numbers)) l.self.place [] (standing (lumas_of l.self.all.geom.now) l.fn.work l.fn.values l.fn.counts) l.active l.fn.r.left;
}
