use Rattle.std.proofs.Common.{◌≡◌, to_z, of_z, arith}
use Rattle.std.specs.Int.{w16, w32}
use Rattle.std.proofs.lemmas.Int.{ints, to_z-of_z}
use Rattle.enc_near.proofs.DistanceLemmas.{quotient_small}
use Rattle.enc_near.proofs.quotient.first_quotient.Goals as goal

pub returns-clause-value : goal.returns-clause-value
returns-clause-value c =
    let r = rw (to_z-of_z w32 c.args.f c.ranges.f) at c.quotient.ensures in
    let small = quotient_small c.args.f c.quotient.result c.args.q c.requires.f c.requires.q r in
    let same : to_z w16 (of_z w16 (to_z w32 (of_z w32 c.quotient.result))) ≡ c.quotient.result = omega (arith, ints, small) in
    rw same r

pub returns-clause-small : goal.returns-clause-small
returns-clause-small c =
    let r = rw (to_z-of_z w32 c.args.f c.ranges.f) at c.quotient.ensures in
    let small = quotient_small c.args.f c.quotient.result c.args.q c.requires.f c.requires.q r in
    let same : to_z w16 (of_z w16 (to_z w32 (of_z w32 c.quotient.result))) ≡ c.quotient.result = omega (arith, ints, small) in
    rw same (omega (arith, small))
