use Rattle.std.proofs.Common.{◌≡◌, ◌≤◌, map, replicate, take}
use Rattle.thr_token.specs.Coefficients.{first_place}
use Rattle.thr_token.specs.Listing.{listed}
use Rattle.thr_token.proofs.waiting.begin_listed.Given as goal

abbrev pub invariant-flags : goal.invariant-flags
invariant-flags l = record {
  low : l.open ≤ l.b;
  counts_are : take l.b l.counts ≡ replicate l.b 0;
  list_is : take l.open l.list ≡ listed 0 (map first_place (take l.b l.flags));
}
