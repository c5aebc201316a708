use Rattle.std.proofs.Common.{◌∙◌, ◌<◌, ℕ, lit<}
use Rattle.thr_recon.proofs.RowLemmas.{eight, lane_mean}
use Rattle.thr_recon.proofs.rows.mean_row.Goals as goal

pub returns : goal.returns
returns c =
    let a = c.args.a.now in
    let b = c.args.b.now in
    let mean = λ (k : ℕ) (inside : k < 8). lane_mean c.wide.result c.wide-2.result a b k c.wide.ensures c.wide-2.ensures c.told-a c.told-b inside (c.fits-a k) (c.fits-b k) in
    c.low_bytes.ensures ∙ eight (mean 0 (lit< tt)) (mean 1 (lit< tt)) (mean 2 (lit< tt)) (mean 3 (lit< tt)) (mean 4 (lit< tt)) (mean 5 (lit< tt)) (mean 6 (lit< tt)) (mean 7 (lit< tt))
