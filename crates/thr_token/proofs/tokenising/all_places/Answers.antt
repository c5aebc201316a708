use Rattle.std.proofs.Common.{ℕ, suc, ◌≡◌, ◌+◌, ◌*◌, length, arith}
use Rattle.std.proofs.Math.Nat.{suc-mul}
use Rattle.vid_geom.specs.CodedOrder.{order_of}
use Rattle.thr_token.proofs.tokenising.all_places.Goals as goal

place_more : (place n : ℕ) → (place + 1) * n ≡ place * n + n
place_more place n = let next : place + 1 ≡ suc place = omega arith in rw next (suc-mul place n)

pub places-preserved : goal.places-preserved
places-preserved c = record {
  told = λ whole t. c.in_ok-run.ensures.told whole (c.places.invariant.told whole t);
  size = omega (arith, c.at_place.auto.work, c.places.invariant.size);
  low = λ i d h. omega (arith, c.in_ok-run.ensures.low i d h);
  few = (let n = length (order_of c.args.geom.now) in let more : (c.places.place + 1) * n ≡ c.places.place * n + n = place_more c.places.place n in omega (arith, c.in_ok-run.ensures.few, c.places.invariant.few));
  tokens = λ each. c.in_ok-run.ensures.tokens (c.places.invariant.tokens each);
}
