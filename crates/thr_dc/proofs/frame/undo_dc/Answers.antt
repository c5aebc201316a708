use Rattle.thr_dc.specs.Prediction.{undone}
use Rattle.thr_dc.proofs.FrameLemmas.{rewritten}
use Rattle.thr_dc.proofs.frame.undo_dc.Goals as goal

pub returns-clause-value : goal.returns-clause-value
returns-clause-value c =
    let r = c.change_frame.ensures.values in
    rewritten undone c.args.geom.now c.args.flags.now c.args.kinds.now c.args.coeffs.now.values.items c.change_frame.new.coeffs.values.items c.requires.values r.planes r.changes
