use Rattle.thr_frame.proofs.PredictorLemmas.{plane_sealed, plane_sized}
use Rattle.enc_near.proofs.sources.Sources.reference.Goals as goal

pub returns-then-kind-eq-GOLDEN-clause-sealed : goal.returns-then-kind-eq-GOLDEN-clause-sealed
returns-then-kind-eq-GOLDEN-clause-sealed c = rw c.plane.ensures (plane_sealed c.args.self.now.golden.now c.args.pli c.args.self.now.golden_sealed)

pub returns-then-kind-eq-GOLDEN-clause-sized : goal.returns-then-kind-eq-GOLDEN-clause-sized
returns-then-kind-eq-GOLDEN-clause-sized c = rw c.plane.ensures (plane_sized c.args.self.now.geom.now c.args.self.now.golden.now c.args.pli c.requires c.args.self.now.golden_sized)

pub returns-clause-sealed : goal.returns-clause-sealed
returns-clause-sealed c = rw c.plane-2.ensures (plane_sealed c.args.self.now.prev.now c.args.pli c.args.self.now.prev_sealed)

pub returns-clause-sized : goal.returns-clause-sized
returns-clause-sized c = rw c.plane-2.ensures (plane_sized c.args.self.now.geom.now c.args.self.now.prev.now c.args.pli c.requires c.args.self.now.prev_sized)
