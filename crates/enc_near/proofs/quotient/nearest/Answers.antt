use Rattle.std.proofs.Common.{◌≡◌, ◌+ℤ◌, pos, negsuc, to_z, of_z, arith}
use Rattle.std.specs.Prelude.{◌≤ℤ◌}
use Rattle.std.specs.Int.{w16, w32}
use Rattle.std.proofs.lemmas.Int.{ints, to_z-of_z}
use Rattle.enc_near.proofs.DistanceLemmas.{greatest_nearest, least_nearest, quotient_nearest}
use Rattle.enc_near.proofs.quotient.nearest.Goals as goal

pub returns-then-c-clause-value : goal.returns-then-c-clause-value
returns-then-c-clause-value c =
    let r = rw (to_z-of_z w32 c.args.f c.ranges.f) at c.quotient-c.ensures in
    let below : (c.quotient-c.result +ℤ pos 1) ≤ℤ negsuc 579 = omega (arith, ints) in record {
      least = λ d h k. least_nearest c.args.f c.quotient-c.result (negsuc 579) d c.args.q r below h;
    }

pub returns-then-c-gt-MOST-clause-value : goal.returns-then-c-gt-MOST-clause-value
returns-then-c-gt-MOST-clause-value c =
    let r = rw (to_z-of_z w32 c.args.f c.ranges.f) at c.quotient-c.ensures in
    let above : (pos 580 +ℤ pos 1) ≤ℤ c.quotient-c.result = omega (arith, ints) in record {
      least = λ d h k. greatest_nearest c.args.f c.quotient-c.result (pos 580) d c.args.q r above k;
    }

pub returns-else-c-gt-MOST-clause-value : goal.returns-else-c-gt-MOST-clause-value
returns-else-c-gt-MOST-clause-value c =
    let r = rw (to_z-of_z w32 c.args.f c.ranges.f) at c.quotient-c.ensures in
    let same : to_z w16 (of_z w16 (to_z w32 (of_z w32 c.quotient-c.result))) ≡ c.quotient-c.result = omega (arith, ints) in
    rw same (record { least = λ d h k. quotient_nearest c.args.f c.quotient-c.result d c.args.q r })
