use Rattle.std.proofs.Common.{◌≡◌, ◌*ℤ◌, ◌+ℤ◌, pos, ◌*◌, to_z, of_z, arith}
use Rattle.std.specs.Int.{w32}
use Rattle.std.proofs.lemmas.Int.{ints, to_z-of_z}
use Rattle.enc_near.proofs.DistanceLemmas.{division_rounds}
use Rattle.enc_near.proofs.quotient.quotient.Goals as goal
use mir.Val.{SFits}

pub returns : goal.returns
returns c =
    let dividend : to_z w32 (of_z w32 (to_z w32 (of_z w32 (pos 2 *ℤ to_z w32 (of_z w32 c.args.f))) +ℤ to_z w32 (of_z w32 c.from-q.result))) ≡ pos 2 *ℤ c.args.f +ℤ pos c.args.q = omega (arith, ints) in
    let divisor : to_z w32 (of_z w32 (pos 2 *ℤ to_z w32 (of_z w32 c.from-q.result))) ≡ pos (2 * c.args.q) = omega (arith, ints) in
    let fits : SFits w32 c.div_euclid.result = record { sfits = c.div_euclid.type_inv } in
    rw (to_z-of_z w32 c.div_euclid.result fits, c.div_euclid.ensures, dividend, divisor) (division_rounds c.args.f c.args.q c.requires.q)
