use Rattle.std.proofs.Common.{◌++◌, ◌+◌, [], refl, arith, ◌∙◌}
use Rattle.cut_desk.proofs.MakingLemmas.{adds_none, adds_twice, adds_onto}
use Rattle.cut_slice.proofs.CopyLemmas.{short_at, frame_came, frames_came, granule_is}
use Rattle.cut_slice.specs.Plain.{stream_of}
use Rattle.cut_slice.specs.Sources.{packets_view}
use Rattle.cut_slice.proofs.copy.add_frames.Goals as goal

pub loop-f-init : goal.loop-f-init
loop-f-init g c = record {
  key = omega arith;
  came = [];
  adds = adds_none _ _ c.args.id refl (omega arith);
  all = refl;
}

pub add_packet-requires-clause-short : goal.add_packet-requires-clause-short
add_packet-requires-clause-short g c = short_at (λ p. p.now) c.args.frames.now c.loop-f.f _ c.loop-f-test.true c.requires.short

pub returns-in-Err-clause-part : goal.returns-in-Err-clause-part
returns-in-Err-clause-part g c = adds_onto _ _ _ c.args.id c.loop-f.invariant.came c.loop-f.invariant.adds c.in-Err.ensures.part

pub loop-f-preserved : goal.loop-f-preserved
loop-f-preserved g c = record {
  key = omega (arith, c.key_at-key.ensures.bound);
  came = c.loop-f.invariant.came ++ _;
  adds = adds_twice _ _ _ c.args.id _ _ c.loop-f.invariant.adds c.in-Ok.ensures.added;
  all = frame_came (λ p. p.now) (stream_of (packets_view c.args.source.now)) c.args.frames.now c.loop-f.f c.loop-f.key c.key_at-key.result _ _ _ _ _ c.loop-f.invariant.came _ c.loop-f-test.true c.key_at-key.ensures.key c.frame_head-head.ensures.flags
      (c.frame_head-head.ensures.granule ∙ granule_is _ _ _ _ c.key_at-key.result c.loop-f.f c.base_of-base.ensures.value c.shift_of-shift.ensures.shift) c.frame_head-head.ensures.serial c.frame_head-head.ensures.number c.loop-f.invariant.all;
}

pub returns-clause-added : goal.returns-clause-added
returns-clause-added g c = rw (← frames_came (λ p. p.now) (stream_of (packets_view c.args.source.now)) c.args.frames.now (2 + c.loop-f.f) c.loop-f.f c.loop-f.key c.loop-f.invariant.came _ c.loop-f-test.false c.loop-f.invariant.all) c.loop-f.invariant.adds
