use Rattle.std.proofs.Common.{◌≡◌, ◌≤◌, ◌++◌, [], length, take, drop}
use Rattle.vid_base.specs.Reading.{SameEnd}
use Rattle.thr_token.specs.Coefficients.{at_place, token_in}
use Rattle.thr_token.specs.Standing.{lumas_of}
use Rattle.thr_token.specs.Listing.{IsListing, blocks_by}
use Rattle.thr_token.specs.Views.{as_numbers}
use Rattle.thr_token.proofs.WaitingLemmas.{from_block, next_block}
use Rattle.thr_token.proofs.trees.PlaceTrees.at_place.Given as goal

-- the words that were kept and those that are still to be looked at are the blocks that have not ended, and reading goes on
-- with the first of the latter
abbrev pub invariant-list : goal.invariant-list
invariant-list l = record {
  end : SameEnd l.fn.r l.bits;
  low : l.kept ≤ l.k;
  values_are : length l.values ≡ length (lumas_of l.self.all.geom.now);
  counts_are : length l.counts ≡ length (lumas_of l.self.all.geom.now);
  listing : IsListing (length (lumas_of l.self.all.geom.now)) (take l.kept l.list ++ drop l.k l.list);
  same : from_block (token_in l.self.all.forest.now (as_numbers l.self.all.numbers)) l.self.place (blocks_by (lumas_of l.self.all.geom.now) (take l.kept l.list ++ drop l.k l.list) l.values l.counts)
      (next_block (length (lumas_of l.self.all.geom.now)) (drop l.k l.list)) l.run l.bits.left
      ≡ at_place (token_in l.self.all.forest.now (as_numbers l.self.all.numbers)) l.self.place [] (blocks_by (lumas_of l.self.all.geom.now) l.fn.list l.fn.values l.fn.counts) l.active l.fn.r.left;
}
