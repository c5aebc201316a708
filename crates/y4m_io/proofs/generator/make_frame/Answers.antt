use Rattle.std.proofs.Common.{◌≡◌, ◌∙◌, ◌*◌, ℕ, length, ap, refl, arith}
use Rattle.std.proofs.lemmas.List.{with_items_is}
use Rattle.y4m_io.specs.Pictures.{chroma_columns, chroma_rows}
use Rattle.y4m_io.specs.Generator.{by_places, cb_at, cr_at, generated, luma_at}
use Rattle.y4m_io.proofs.PictureLemmas.{luma_most, chroma_most, same_samples}
use Rattle.y4m_io.proofs.generator.make_frame.Goals as goal

pub fill_luma-requires-clause-size : goal.fill_luma-requires-clause-size
fill_luma-requires-clause-size c =
    let p = c.args.into.now in
    omega (arith, c.deref_mut.ensures.len, c.requires.picture.whole.y, luma_most p.w p.h p.pf c.requires.picture.size)

pub fill_cb-requires-clause-size : goal.fill_cb-requires-clause-size
fill_cb-requires-clause-size c =
    let p = c.args.into.now in
    omega (arith, c.deref_mut-2.ensures.len, c.requires.picture.whole.cb, chroma_most p.w p.h p.pf c.requires.picture.size)

pub fill_cr-requires-clause-size : goal.fill_cr-requires-clause-size
fill_cr-requires-clause-size c =
    let p = c.args.into.now in
    omega (arith, c.deref_mut-3.ensures.len, c.requires.picture.whole.cr, chroma_most p.w p.h p.pf c.requires.picture.size)

pub returns-clause-value : goal.returns-clause-value
unfolding generated
returns-clause-value c =
    let p = c.args.into.now in
    let of = c.requires.picture.whole in
    let columns = c.columns_of-columns.ensures in
    let chroma : chroma_rows p.h p.pf * chroma_columns p.w p.pf ≡ chroma_rows p.h 0 * chroma_columns p.w 0 = ap (λ pf. chroma_rows p.h pf * chroma_columns p.w pf) c.requires.format in
    let cb : length c.deref_mut-2.result.now ≡ chroma_rows p.h 0 * chroma_columns p.w 0 = ap length c.deref_mut-2.ensures.value ∙ of.cb ∙ chroma in
    let cr : length c.deref_mut-3.result.now ≡ chroma_rows p.h 0 * chroma_columns p.w 0 = ap length c.deref_mut-3.ensures.value ∙ of.cr ∙ chroma in
    same_samples _ (generated c.args.start c.args.n p.w p.h) refl refl c.requires.format
    (with_items_is p.y c.fill_luma.new.into (c.fill_luma.auto.into ∙ c.deref_mut.ensures.len) ∙ c.fill_luma.ensures ∙ ap (by_places (luma_at c.args.start c.args.n) p.w) (ap length c.deref_mut.ensures.value ∙ of.y))
    (with_items_is p.cb c.fill_cb.new.into (c.fill_cb.auto.into ∙ c.deref_mut-2.ensures.len) ∙ c.fill_cb.ensures ∙ ap (λ (w : ℕ). by_places (λ x y. cb_at c.args.start c.args.n x) w (length c.deref_mut-2.result.now)) columns ∙ ap (by_places (λ x y. cb_at c.args.start c.args.n x) (chroma_columns p.w 0)) cb)
    (with_items_is p.cr c.fill_cr.new.into (c.fill_cr.auto.into ∙ c.deref_mut-3.ensures.len) ∙ c.fill_cr.ensures ∙ ap (λ (w : ℕ). by_places (λ x y. cr_at c.args.start c.args.n y) w (length c.deref_mut-3.result.now)) columns ∙ ap (by_places (λ x y. cr_at c.args.start c.args.n y) (chroma_columns p.w 0)) cr)
