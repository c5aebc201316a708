use Rattle.std.proofs.Common.{◌≡◌, ◌-◌, length}
use Rattle.vid_geom.specs.CodedOrder.{order_of}
use Rattle.vid_base.specs.Reading.{SameEnd}
use Rattle.thr_token.specs.Coefficients.{places, token_in}
use Rattle.thr_token.specs.Standing.{lumas_of, standing}
use Rattle.thr_token.specs.Views.{as_numbers}
use Rattle.thr_token.proofs.trees.Trees.scan_later.Given as goal

-- from each place on the blocks go where they go from place 1 on
abbrev pub invariant-places : goal.invariant-places
invariant-places l = record {
  end : SameEnd l.fn.r l.r;
  values_are : length l.values ≡ length (order_of l.self.geom.now);
  counts_are : length l.counts ≡ length (order_of l.self.geom.now);
  work_is : length l.work ≡ length (order_of l.self.geom.now);
  same : places (token_in l.self.forest.now (as_numbers l.self.numbers)) (64 - l.place) l.place (standing (lumas_of l.self.geom.now) l.work l.values l.counts) l.run l.r.left
      ≡ places (token_in l.self.forest.now (as_numbers l.self.numbers)) 63 1 (standing (lumas_of l.self.geom.now) l.fn.work l.fn.values l.fn.counts) l.active l.fn.r.left;
}
