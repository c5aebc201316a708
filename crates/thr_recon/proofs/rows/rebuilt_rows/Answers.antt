use Rattle.std.proofs.Common.{refl}
use Rattle.thr_recon.specs.Rebuilt.{block_of, rebuilt}
use Rattle.thr_recon.proofs.rows.rebuilt_rows.Goals as goal

pub returns : goal.returns
unfolding block_of rebuilt
returns c = rw (c.rebuilt_row.ensures, c.rebuilt_row-2.ensures, c.rebuilt_row-3.ensures, c.rebuilt_row-4.ensures, c.rebuilt_row-5.ensures, c.rebuilt_row-6.ensures, c.rebuilt_row-7.ensures, c.rebuilt_row-8.ensures) refl
