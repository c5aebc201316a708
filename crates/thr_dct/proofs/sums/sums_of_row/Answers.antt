use Rattle.std.proofs.Common.{arith, ◌+◌, ◌*◌, ℕ}
use Rattle.std.proofs.lemmas.Int.{to_z-of_z}
use Rattle.thr_dct.specs.Line.{entry}
use Rattle.thr_dct.proofs.SumsLemmas.{sums_by_ends}
use Rattle.thr_dct.proofs.sums.sums_of_row.Goals as goal

pub returns : goal.returns
returns c =
    let f = λ (x : ℕ). entry c.args.block.now (8 * c.args.r + x) in
    let whole =
    sums_by_ends f c.ends_at-e0.result.sum c.ends_at-e1.result.sum c.ends_at-e2.result.sum c.ends_at-e3.result.sum
    c.ends_at-e0.result.difference c.ends_at-e1.result.difference c.ends_at-e2.result.difference c.ends_at-e3.result.difference
    (record { sum = c.ends_at-e0.ensures.sum; difference = c.ends_at-e0.ensures.difference })
    (record { sum = c.ends_at-e1.ensures.sum; difference = c.ends_at-e1.ensures.difference })
    (record { sum = c.ends_at-e2.ensures.sum; difference = c.ends_at-e2.ensures.difference })
    (record { sum = c.ends_at-e3.ensures.sum; difference = c.ends_at-e3.ensures.difference }) in
    grind (arith, to_z-of_z, whole)
