use Rattle.std.proofs.Common.{◌≡◌, ◌+◌, ◌-◌, ◌*◌, ◌≤◌, ℕ, length, take, drop, subst, ap, arith}
use Rattle.std.specs.Prelude.{min}
use Rattle.std.proofs.lemmas.Nat.{row_fits}
use Rattle.vid_plane.specs.Paints.{Paints}
use Rattle.y4m_io.specs.Pad.{nearest_sample}
use Rattle.y4m_io.proofs.PadLemmas.{row_more, all_rows, length-row, sample_in_row}
use Rattle.y4m_io.proofs.pad.pad_plane.Goals as goal

pub loop-y-preserved : goal.loop-y-preserved
loop-y-preserved c =
    let samples = c.args.samples.now in
    let n = c.args.columns in
    let m = c.args.rows in
    let y = c.loop-y.y in
    let at = (m - 1 - c.min.result) * n in
    let fits : at + n ≤ length samples = omega (arith, c.requires.size, row_fits (m - 1 - c.min.result) n m n (omega (arith, c.requires.high)) (omega arith)) in
    let count : at + n - at ≡ n = omega arith in
    let place : at ≡ (m - 1 - min y (m - 1)) * n = ap (λ i. (m - 1 - i) * n) c.min.ensures in
    row_more c.args.into.now c.loop-y.into c.pad_row.new.into n m y at samples (take (at + n - at) (drop at samples)) c.loop-y.invariant c.pad_row.ensures
    (length-row samples at n (at + n - at) fits count) c.requires.wide place (λ k below. sample_in_row samples at n (at + n - at) k fits count below)
    (omega (arith, c.height-y-end.ensures.value, c.loop-y-test.true))

pub returns : goal.returns
returns c =
    let p = c.args.into.now in
    let all : c.loop-y.y ≡ p.height = omega (arith, c.height-y-end.ensures.value, c.loop-y-test.false) in
    all_rows p c.loop-y.into c.seal.new.self c.args.columns c.args.rows c.args.samples.now c.height-y-end.ensures.sized
    (subst (λ (i : ℕ). Paints p c.loop-y.into 0 0 p.width i (nearest_sample c.args.columns c.args.rows c.args.samples.now)) all c.loop-y.invariant) c.seal.ensures
