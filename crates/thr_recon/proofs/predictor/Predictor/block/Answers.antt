use Rattle.std.proofs.Common.{refl}
use Rattle.vid_plane.specs.Windows.{seen_block, seen_run}
use Rattle.thr_recon.specs.Predicted.{shown, flat, moved, mean_of}
use Rattle.thr_recon.specs.Rebuilt.{block_of}
use Rattle.thr_recon.proofs.predictor.Predictor.block.Goals as goal

pub returns-in-Flat : goal.returns-in-Flat
unfolding block_of shown flat
returns-in-Flat c = rw c.in-Flat.is refl

pub returns-in-One : goal.returns-in-One
unfolding block_of shown moved seen_block seen_run
returns-in-One c = rw (c.in-One.is, c.block.ensures) refl

pub returns-in-Two : goal.returns-in-Two
unfolding block_of shown moved mean_of seen_block seen_run
returns-in-Two c = rw (c.in-Two.is, c.mean_block.ensures, c.block-in-Two.ensures, c.block-in-Two-2.ensures) refl
