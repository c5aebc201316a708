use Rattle.std.proofs.Common.{◌∙◌, length, ap}
use Rattle.thr_setup.specs.Setup.{contents}
use Rattle.thr_dc.specs.Frames.{with_planes}
use Rattle.thr_dc.specs.Prediction.{applied}
use Rattle.thr_dc.proofs.OrderedLemmas.{all_within, still_bounded}
use Rattle.enc_near.proofs.DcLemmas.{planes_change}
use Rattle.enc_near.proofs.NearLemmas.{frame_near, length-kinds, made_full, made_small}
use Rattle.enc_near.proofs.frame.nearest_values.Goals as goal

pub invariant_of-sources-clause-kinds_sized : goal.invariant_of-sources-clause-kinds_sized
invariant_of-sources-clause-kinds_sized c = ap length c.requires.kinds ∙ length-kinds c.args.geom.now c.args.modes.now

pub limit_dc-requires-clause-within : goal.limit_dc-requires-clause-within
limit_dc-requires-clause-within c = all_within 580 c.args.flags.now c.fill.new.into.values.items (made_small _ c.fill.new.into.values.items c.fill.ensures.sized c.fill.ensures.made)

pub returns-clause-near : goal.returns-clause-near
returns-clause-near c = λ frame flags modes vectors qis values. frame_near (contents c.args.setup.now) c.args.qi _ c.fill.new.into.values.items c.limit_dc.new.coeffs.values.items frame (record {
  flags = flags ∙ c.requires.flags;
  kinds = rw modes c.requires.kinds;
  vectors = vectors;
  qis = qis;
  matrices = c.matrices-matrices.ensures.value;
  values = values;
  old_made = c.fill.ensures.made;
  kept = rw flags c.limit_dc.ensures.value;
  changes = rw flags c.limit_dc.ensures.changes;
  full = made_full _ c.fill.new.into.values.items c.fill.ensures.made;
})

pub returns-clause-small : goal.returns-clause-small
returns-clause-small c =
    still_bounded 580 c.args.flags.now c.fill.new.into.values.items c.limit_dc.new.coeffs.values.items c.limit_dc.ensures.changes
    (made_small _ c.fill.new.into.values.items c.fill.ensures.sized c.fill.ensures.made) c.limit_dc.ensures.within

pub returns-clause-differences : goal.returns-clause-differences
returns-clause-differences c =
    let new = c.limit_dc.new.coeffs.values.items in
    let differences = with_planes applied c.args.geom.now c.args.flags.now c.args.kinds.now new in
    still_bounded 580 c.args.flags.now new differences (planes_change applied c.args.geom.now c.args.flags.now c.args.kinds.now new c.requires.flags c.limit_dc.ensures.sized)
    (returns-clause-small c) c.limit_dc.ensures.differences
