use Rattle.thr_modes.proofs.LumaLemmas.{luma_flags_at}
use Rattle.thr_modes.proofs.luma.luma_flags.Goals as goal

pub returns : goal.returns
returns c = rw c.flags_at.ensures (luma_flags_at c.args.geom.now c.args.flags.now c.args.m c.luma_places.result c.luma_places.ensures.value)
