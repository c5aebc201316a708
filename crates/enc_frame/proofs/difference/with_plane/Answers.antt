use Rattle.std.proofs.Common.{◌≡◌, ◌≤◌, ◌<◌, ◌+◌, ◌*◌, ◌∙◌, length, max, refl, ap, sym, arith}
use Rattle.std.proofs.Math.Nat.{mul_comm}
use Rattle.vid_plane.specs.Picture.{row_of}
use Rattle.enc_frame.specs.Difference.{differences, greatest, total}
use Rattle.enc_frame.proofs.DifferenceLemmas.{row_max_more, row_sum_more, samples_before, plane_done}
use Rattle.enc_frame.proofs.difference.with_plane.Goals as goal

pub rows-init : goal.rows-init
rows-init c = let none : 0 * c.args.a.now.width ≡ 0 = omega arith in rw none (record { max_is = refl; sum_is = refl; few = omega arith })

pub with_row-far-requires-clause-room : goal.with_row-far-requires-clause-room
with_row-far-requires-clause-room c =
    let most = samples_before c.args.a.now c.rows.y c.width-width.ensures.sized (omega (arith, c.rows-test.true, c.height-y-end.ensures.value)) in
    omega (arith, most.0, c.rows.invariant.few, c.requires.room, c.row.ensures.sized)

pub rows-preserved : goal.rows-preserved
rows-preserved c =
    let p = c.args.a.now in
    let q = c.args.b.now in
    let is_p = c.width-width.ensures.sized in
    let is_q = c.height-like.ensures.sized in
    let below : c.rows.y < p.height = omega (arith, c.rows-test.true, c.height-y-end.ensures.value) in
    let i = c.rows.invariant in
    let rows : differences c.row.result.now c.row-in-rows.result.now ≡ differences (row_of p c.rows.y) (row_of q c.rows.y) = ap (λ l. differences l c.row-in-rows.result.now) c.row.ensures.value ∙ ap (λ l. differences (row_of p c.rows.y) l) c.row-in-rows.ensures.value in
    record {
      max_is = row_max_more p q c.rows.y c.rows.far.max c.with_row-far.result.max _ is_p is_q c.requires.like below (c.with_row-far.ensures.max ∙ ap (λ l. max c.rows.far.max (greatest l)) rows) i.max_is;
      sum_is = row_sum_more p q c.rows.y c.rows.far.sum c.with_row-far.result.sum _ is_p is_q c.requires.like below (c.with_row-far.ensures.sum ∙ ap (λ l. c.rows.far.sum + total l) rows) i.sum_is;
      few = omega (arith, i.few, c.with_row-far.ensures.few, c.row.ensures.sized, (samples_before p c.rows.y is_p below).1);
    }

pub returns-clause-max : goal.returns-clause-max
returns-clause-max c =
    let done : c.rows.y ≡ c.args.a.now.height = omega (arith, c.rows-test.false, c.rows.auto, c.height-y-end.ensures.value) in
    let none = plane_done c.args.a.now c.args.b.now c.width-width.ensures.sized c.height-like.ensures.sized c.requires.like in
    let i = rw done at c.rows.invariant.max_is in
    omega (arith, i, none)

pub returns-clause-sum : goal.returns-clause-sum
returns-clause-sum c =
    let done : c.rows.y ≡ c.args.a.now.height = omega (arith, c.rows-test.false, c.rows.auto, c.height-y-end.ensures.value) in
    let none = plane_done c.args.a.now c.args.b.now c.width-width.ensures.sized c.height-like.ensures.sized c.requires.like in
    let i = rw done at c.rows.invariant.sum_is in
    omega (arith, i, none)

pub returns-clause-few : goal.returns-clause-few
returns-clause-few c =
    let done : c.rows.y ≡ c.args.a.now.height = omega (arith, c.rows-test.false, c.rows.auto, c.height-y-end.ensures.value) in
    let few = rw done at c.rows.invariant.few in
    omega (arith, few, mul_comm c.args.a.now.width c.args.a.now.height, c.width-width.ensures.sized.small)
