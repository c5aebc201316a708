use Rattle.std.proofs.Common.{◌≡◌, map, pos, replicate, take}
use Rattle.thr_token.specs.Coefficients.{first_place}
use Rattle.thr_token.proofs.reading.begin.Given as goal

abbrev pub invariant-flags : goal.invariant-flags
invariant-flags l = record {
  values_are : take l.b l.values ≡ replicate l.b (replicate 64 (pos 0));
  counts_are : take l.b l.counts ≡ replicate l.b 0;
  work_is : take l.b l.work ≡ map first_place (take l.b l.flags);
}
