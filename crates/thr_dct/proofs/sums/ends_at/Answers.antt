use Rattle.std.proofs.Common.{arith, ◌+◌, ◌-◌, ◌*◌, ◌^◌, pos}
use Rattle.std.proofs.lemmas.Int.{ints}
use Rattle.thr_dct.specs.Line.{entry, Within}
use Rattle.thr_dct.proofs.sums.ends_at.Goals as goal

pub returns-clause-bounds : goal.returns-clause-bounds
returns-clause-bounds c =
    let near : Within (2 ^ 27) (entry c.args.block.now (8 * c.args.r + c.args.k)) = c.requires.numbers (8 * c.args.r + c.args.k) (pos 0) (omega arith) in
    let far : Within (2 ^ 27) (entry c.args.block.now (8 * c.args.r + (7 - c.args.k))) = c.requires.numbers (8 * c.args.r + (7 - c.args.k)) (pos 0) (omega arith) in
    (record { low = omega (arith, ints); high = omega (arith, ints) }, record { low = omega (arith, ints); high = omega (arith, ints) })
