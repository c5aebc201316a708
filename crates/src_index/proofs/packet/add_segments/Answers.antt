use Rattle.std.proofs.Common.{◌≡◌, ◌∙◌, ◌<◌, ◌≤◌, ◌++◌, length, Err, ap, sym, arith}
use Rattle.src_index.specs.declared.fault.SourceFault.TheVariants.{Changed}
use Rattle.src_index.specs.Gather.{first_packet}
use Rattle.src_index.proofs.GatherLemmas.{segment_passed, segment_goes_on, segment_ends, segment_long, segment_sizes, segments_done}
use Rattle.src_index.proofs.packet.add_segments.Goals as goal

pub lacing-preserved-then-i-first : goal.lacing-preserved-then-i-first
lacing-preserved-then-i-first c =
    let low : c.lacing.i < length c.args.lacing.now = omega arith in
    let before : c.lacing.i < c.args.first = omega arith in
    record {
      sizes = segment_sizes c.args.lacing.now c.lacing.rest.now c.split_at.result.1.now c.lacing.i c.from.result low c.from.ensures c.split_at.ensures.back c.lacing.invariant.sizes;
      packet = λ more.
          ap (λ ps. first_packet c.lacing.into.items (ps ++ more)) (segment_passed c.args.lacing.now c.lacing.rest.now c.split_at.result.1.now c.args.first c.lacing.i c.from.result low before c.from.ensures c.split_at.ensures.back)
          ∙ c.lacing.invariant.packet more;
      few = c.lacing.invariant.few;
    }

pub returns-in-Err-clause-long : goal.returns-in-Err-clause-long
returns-in-Err-clause-long c = λ changed more packet h.
    let low : c.lacing.i < length c.args.lacing.now = omega arith in
    let at : c.args.first ≤ c.lacing.i = omega arith in
    let fault : c.in-Err.fault ≡ Changed = cc in
    let short = segment_long c.args.lacing.now c.lacing.rest.now c.split_at.result.1.now c.split_at.result.0.now c.lacing.into.items packet c.args.first c.lacing.i c.from.result more low at c.from.ensures c.split_at.ensures.back c.split_at.ensures.front (c.lacing.invariant.packet more ∙ h) in
    omega (arith, short, c.in-Err.ensures.long (ap (λ f. Err f) fault))

pub returns-then-size-lt255-clause-packet : goal.returns-then-size-lt255-clause-packet
returns-then-size-lt255-clause-packet c = λ more.
    let low : c.lacing.i < length c.args.lacing.now = omega arith in
    let at : c.args.first ≤ c.lacing.i = omega arith in
    sym (c.lacing.invariant.packet more)
    ∙ segment_ends c.args.lacing.now c.lacing.rest.now c.split_at.result.1.now c.split_at.result.0.now c.lacing.into.items c.add_bytes.new.into.items c.args.first c.lacing.i c.from.result more low at c.from.ensures c.split_at.ensures.back c.split_at.ensures.front c.in-Ok.ensures.bytes
    (omega (arith, c.from.ensures))

pub lacing-preserved : goal.lacing-preserved
lacing-preserved c =
    let low : c.lacing.i < length c.args.lacing.now = omega arith in
    let at : c.args.first ≤ c.lacing.i = omega arith in
    record {
      sizes = segment_sizes c.args.lacing.now c.lacing.rest.now c.split_at.result.1.now c.lacing.i c.from.result low c.from.ensures c.split_at.ensures.back c.lacing.invariant.sizes;
      packet = λ more.
          segment_goes_on c.args.lacing.now c.lacing.rest.now c.split_at.result.1.now c.split_at.result.0.now c.lacing.into.items c.add_bytes.new.into.items c.args.first c.lacing.i c.from.result more low at c.from.ensures c.split_at.ensures.back c.split_at.ensures.front c.in-Ok.ensures.bytes
          (omega (arith, c.from.ensures))
          ∙ c.lacing.invariant.packet more;
      few = c.in-Ok.ensures.few;
    }

pub returns-clause-packet : goal.returns-clause-packet
returns-clause-packet c = λ more.
    sym (c.lacing.invariant.packet more)
    ∙ ap (λ ps. first_packet c.lacing.into.items (ps ++ more)) (segments_done c.args.lacing.now c.lacing.rest.now c.args.first c.lacing.i (omega arith))
