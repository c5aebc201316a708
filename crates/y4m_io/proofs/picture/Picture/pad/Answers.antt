use Rattle.std.proofs.Common.{refl}
use Rattle.y4m_io.specs.Pad.{pad_of}
use Rattle.y4m_io.proofs.picture.Picture.pad.Goals as goal

pub returns : goal.returns
unfolding pad_of
returns c =
    rw (c.pad_plane.ensures, c.pad_plane-2.ensures, c.pad_plane-3.ensures, c.deref.ensures.value, c.deref-2.ensures.value, c.deref-3.ensures.value, c.columns_of-columns.ensures, c.rows_of-rows.ensures) refl
