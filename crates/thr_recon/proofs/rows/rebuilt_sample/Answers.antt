use Rattle.std.proofs.Common.{rules, arith, pos, ◌+ℤ◌, get_or}
use Rattle.std.specs.Int.{w16}
use Rattle.std.proofs.lemmas.Int.{to_z-of_z}
use Rattle.thr_recon.proofs.RowLemmas.{bounded_sum}
use Rattle.thr_recon.proofs.rows.rebuilt_sample.Goals as goal
use mir.Val.{SFits}

pub returns-clause-value : goal.returns-clause-value
returns-clause-value c =
    let residual_fits : SFits w16 (get_or c.args.r.now c.args.k (pos 0)) = search rules in
    let sample_fits : SFits w16 c.from.result = record { sfits = c.from.type_inv } in
    let bounded_fits : SFits w16 c.clamp.result = record { sfits = c.clamp.type_inv } in
    let sum_fits : SFits w16 (c.from.result +ℤ c.clamp.result) = search rules in
    let result_fits : SFits w16 c.clamp-2.result = record { sfits = c.clamp-2.type_inv } in
    let inner = simp to_z-of_z at c.clamp.ensures.value in
    let outer = simp to_z-of_z at c.clamp-2.ensures.value in
    let cast = simp to_z-of_z at c.cast_unsigned.ensures in
    bounded_sum c.args.sample c.cast_unsigned.result _ c.clamp.result c.clamp-2.result (omega arith) inner (rw c.from.ensures at outer) cast
