use Rattle.std.proofs.Common.{refl}
use Rattle.vid_plane.specs.Windows.{seen_block}
use Rattle.vid_plane.proofs.window.Window.block.Goals as goal

pub returns : goal.returns
unfolding seen_block
returns c = rw (c.row.ensures, c.row-2.ensures, c.row-3.ensures, c.row-4.ensures, c.row-5.ensures, c.row-6.ensures, c.row-7.ensures, c.row-8.ensures) refl
