use Rattle.std.proofs.Common.{◌≡◌, ◌∙◌, ◌+◌, ◌-◌, ap, arith, take, drop}
use Rattle.y4m_io.proofs.CropLemmas.{run_part}
use Rattle.y4m_io.proofs.crop.run.Goals as goal

pub returns : goal.returns
returns c =
    let n : c.args.x + c.args.n - c.args.x ≡ c.args.n = omega arith in
    ap (λ i. take i (drop c.args.x c.row.result.now)) n ∙ ap (λ row. take c.args.n (drop c.args.x row)) c.row.ensures.value
    ∙ run_part c.args.plane.now c.args.x c.args.y c.args.n c.args.plane.now.width c.requires.columns
