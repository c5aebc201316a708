use Rattle.std.proofs.Common.{◌≡◌, ◌∙◌, ◌+◌, ◌-◌, ◌*◌, ◌≤◌, ap, arith, length, refl}
use Rattle.std.proofs.lemmas.Nat.{row_fits}
use Rattle.y4m_io.proofs.CropLemmas.{length-run_of, rows_next, rows_done}
use Rattle.y4m_io.proofs.crop.crop_plane.Goals as goal

pub put-requires : goal.put-requires
put-requires c =
    let long = ap length c.run-row.ensures ∙ length-run_of c.args.plane.now c.args.x (c.args.y + (c.args.rows - 1 - c.loop-k.k)) c.args.columns in
    omega (arith, long, c.loop-k.invariant.size, row_fits c.loop-k.k c.args.columns c.args.rows c.args.columns c.loop-k-test.true (omega arith))

pub loop-k-preserved : goal.loop-k-preserved
loop-k-preserved c =
    let p = c.args.plane.now in
    let k = c.loop-k.k in
    let n = c.args.columns in
    let long = ap length c.run-row.ensures ∙ length-run_of p c.args.x (c.args.y + (c.args.rows - 1 - k)) n in
    let fits : k * n + n ≤ length c.loop-k.into = omega (arith, c.loop-k.invariant.size, row_fits k n c.args.rows n c.loop-k-test.true (omega arith)) in
    record {
      size = c.put.auto.samples ∙ c.loop-k.invariant.size;
      done = rows_next p c.args.x c.args.y n c.args.rows k (k * n) c.loop-k.into c.put.new.samples c.run-row.result.now c.loop-k-test.true c.loop-k.invariant.size refl long fits c.loop-k.invariant.done c.run-row.ensures c.put.ensures;
    }

pub returns : goal.returns
returns c =
    rows_done c.args.plane.now c.args.x c.args.y c.args.columns c.args.rows c.loop-k.k (c.loop-k.k * c.args.columns) c.loop-k.into c.loop-k-test.false c.loop-k.invariant.size
    (let e : c.loop-k.k ≡ c.args.rows = omega arith in ap (λ i. i * c.args.columns) e) c.loop-k.invariant.done
