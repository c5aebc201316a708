use Rattle.thr_frame.proofs.PredictorLemmas.{plane_sized}
use Rattle.enc_near.proofs.sources.Sources.target_plane.Goals as goal

pub returns-clause-sized : goal.returns-clause-sized
returns-clause-sized c = rw c.plane.ensures (plane_sized c.args.self.now.geom.now c.args.self.now.target.now c.args.pli c.requires c.args.self.now.target_sized)
