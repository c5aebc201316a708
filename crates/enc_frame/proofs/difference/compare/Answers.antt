use Rattle.std.proofs.Common.{◌≡◌, ◌+◌, max, ap, ◌∙◌, arith}
use Rattle.enc_frame.specs.Difference.{differences, greatest, samples_of, total}
use Rattle.enc_frame.proofs.DifferenceLemmas.{differences_three, greatest_three, total_three}
use Rattle.enc_frame.proofs.difference.compare.Goals as goal

pub returns-clause-max : goal.returns-clause-max
unfolding samples_of
returns-clause-max c =
    let a = c.args.a.now in
    let b = c.args.b.now in
    let three = differences_three a.y.samples a.cb.samples a.cr.samples b.y.samples b.cb.samples b.cr.samples c.with_plane-luma.ensures.same c.with_plane-blue.ensures.same in
    let whole = ap greatest three ∙ greatest_three (differences a.y.samples b.y.samples) (differences a.cb.samples b.cb.samples) (differences a.cr.samples b.cr.samples) in
    omega (arith, whole, c.with_plane-luma.ensures.max, c.with_plane-blue.ensures.max, c.with_plane.ensures.max)

pub returns-clause-sum : goal.returns-clause-sum
unfolding samples_of
returns-clause-sum c =
    let a = c.args.a.now in
    let b = c.args.b.now in
    let three = differences_three a.y.samples a.cb.samples a.cr.samples b.y.samples b.cb.samples b.cr.samples c.with_plane-luma.ensures.same c.with_plane-blue.ensures.same in
    let whole = ap total three ∙ total_three (differences a.y.samples b.y.samples) (differences a.cb.samples b.cb.samples) (differences a.cr.samples b.cr.samples) in
    omega (arith, whole, c.with_plane-luma.ensures.sum, c.with_plane-blue.ensures.sum, c.with_plane.ensures.sum)
