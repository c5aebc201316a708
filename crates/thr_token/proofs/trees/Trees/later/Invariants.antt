use Rattle.std.proofs.Common.{◌≡◌, ◌-◌, ◌≤◌, length, take}
use Rattle.vid_geom.specs.CodedOrder.{order_of}
use Rattle.vid_base.specs.Reading.{SameEnd}
use Rattle.thr_token.specs.Coefficients.{places, token_in}
use Rattle.thr_token.specs.Listing.{IsListing, blocks_by}
use Rattle.thr_token.specs.Standing.{lumas_of}
use Rattle.thr_token.specs.Views.{as_numbers}
use Rattle.thr_token.proofs.trees.Trees.later.Given as goal

-- from each place on the blocks go where they go from place 1 on
abbrev pub invariant-places : goal.invariant-places
invariant-places l = record {
  end : SameEnd l.fn.r l.r;
  values_are : length l.values ≡ length (order_of l.self.geom.now);
  counts_are : length l.counts ≡ length (order_of l.self.geom.now);
  low : l.open ≤ length l.list;
  listing : IsListing (length (lumas_of l.self.geom.now)) (take l.open l.list);
  same : places (token_in l.self.forest.now (as_numbers l.self.numbers)) (64 - l.place) l.place (blocks_by (lumas_of l.self.geom.now) (take l.open l.list) l.values l.counts) l.run l.r.left
      ≡ places (token_in l.self.forest.now (as_numbers l.self.numbers)) 63 1 (blocks_by (lumas_of l.self.geom.now) l.fn.list l.fn.values l.fn.counts) l.active l.fn.r.left;
}
