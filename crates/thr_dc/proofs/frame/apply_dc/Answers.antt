use Rattle.std.proofs.Common.{◌∙◌, ap, sym}
use Rattle.vid_geom.specs.CodedOrder.{block_columns}
use Rattle.thr_dc.specs.Frames.{plane_of}
use Rattle.thr_dc.specs.Prediction.{applied, undone}
use Rattle.thr_dc.proofs.FrameLemmas.{changes_back, rewritten}
use Rattle.thr_dc.proofs.LawLemmas.{undone_applied}
use Rattle.thr_dc.proofs.frame.apply_dc.Goals as goal

pub returns-clause-value : goal.returns-clause-value
returns-clause-value c =
    let r = c.change_frame.ensures.values in
    rewritten applied c.args.geom.now c.args.flags.now c.args.kinds.now c.args.coeffs.now.values.items c.change_frame.new.coeffs.values.items c.requires.values r.planes r.changes

pub returns-clause-reads_back : goal.returns-clause-reads_back
returns-clause-reads_back c =
    let s = c.args.geom.now in
    let flags = c.args.flags.now in
    let kinds = c.args.kinds.now in
    let old = c.args.coeffs.now.values.items in
    let new = c.change_frame.new.coeffs.values.items in
    let r = c.change_frame.ensures.values in
    sym (rewritten undone s flags kinds new old (r.changes.long ∙ c.requires.values)
    (λ pli p. sym (ap (undone (block_columns s pli)) (r.planes pli p) ∙ undone_applied (block_columns s pli) (plane_of s flags kinds old pli) (r.short pli p)))
    (changes_back flags old new r.changes))
