use Rattle.thr_dc.specs.Changes.{plane_by}
use Rattle.thr_dc.proofs.FrameLemmas.{RewritesBefore}
use Rattle.thr_dc.proofs.frame.change_planes.Given as goal

-- the planes so far are changed
abbrev pub invariant-planes : goal.invariant-planes
invariant-planes l = RewritesBefore (plane_by l.change) l.geom l.flags l.kinds l.pli l.fn.values l.values
