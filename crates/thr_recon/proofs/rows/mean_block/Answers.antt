use Rattle.std.proofs.Common.{refl}
use Rattle.thr_recon.specs.Rebuilt.{block_of}
use Rattle.thr_recon.proofs.rows.mean_block.Goals as goal

pub returns : goal.returns
unfolding block_of
returns c = rw (c.mean_row.ensures, c.mean_row-2.ensures, c.mean_row-3.ensures, c.mean_row-4.ensures, c.mean_row-5.ensures, c.mean_row-6.ensures, c.mean_row-7.ensures, c.mean_row-8.ensures) refl
