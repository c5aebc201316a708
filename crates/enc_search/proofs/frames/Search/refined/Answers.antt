use Rattle.std.proofs.Common.{arith}
use Rattle.enc_search.proofs.frames.Search.refined.Goals as goal

pub loop-k-preserved : goal.loop-k-preserved
loop-k-preserved c = record {
  distance = c.better_beside-best.ensures.distance;
  no_more = omega (arith, c.better_beside-best.ensures.no_more, c.loop-k.invariant.no_more);
  allowed = λ memory h. c.better_beside-best.ensures.allowed memory (c.loop-k.invariant.allowed memory h);
}
