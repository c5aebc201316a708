use Rattle.std.proofs.Common.{◌∙◌, refl}
use Rattle.std.proofs.lemmas.List.{with_items_is}
use Rattle.y4m_io.specs.Crop.{crop_of}
use Rattle.y4m_io.proofs.PictureLemmas.{same_samples}
use Rattle.y4m_io.proofs.picture.Picture.crop.Goals as goal

pub returns-clause-value : goal.returns-clause-value
unfolding crop_of
returns-clause-value c =
    let now = c.args.self.now in
    same_samples _ (crop_of c.args.ident.now c.args.frame.now) c.requires.picture.width c.requires.picture.height c.requires.picture.format
    (with_items_is now.y c.crop_plane.new.into (c.crop_plane.auto.into ∙ c.deref_mut.ensures.len) ∙ c.crop_plane.ensures ∙ rw (c.into.ensures, c.into-2.ensures) refl)
    (with_items_is now.cb c.crop_plane-2.new.into (c.crop_plane-2.auto.into ∙ c.deref_mut-2.ensures.len) ∙ c.crop_plane-2.ensures ∙ rw (c.left_of-x.ensures, c.lower_of-y.ensures, c.columns_of-columns.ensures, c.rows_of-rows.ensures) refl)
    (with_items_is now.cr c.crop_plane-3.new.into (c.crop_plane-3.auto.into ∙ c.deref_mut-3.ensures.len) ∙ c.crop_plane-3.ensures ∙ rw (c.left_of-x.ensures, c.lower_of-y.ensures, c.columns_of-columns.ensures, c.rows_of-rows.ensures) refl)
