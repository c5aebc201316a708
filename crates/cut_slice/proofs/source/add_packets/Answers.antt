use Rattle.std.proofs.Common.{◌≡◌, ◌+◌, ◌-◌, ◌++◌, ◌∷◌, [], ◌<◌, ◌/◌, length, refl, take, drop, map, arith, sym, ◌∙◌}
use Rattle.std.proofs.lemmas.List.{map-append}
use Rattle.cut_slice.proofs.SourceLemmas.{ends_here, goes_on, sum_left, packets_end, sub_same, count-snoc, short-snoc, size_of_packet}
use Rattle.cut_slice.proofs.source.add_packets.Goals as goal
use Rattle.cut_slice.proofs.source.add_packets.Goals.{then-ends_packet+in_ok-push, else-ends_packet}

pub loop-size-preserved : goal.loop-size-preserved
loop-size-preserved c =
    let left = sum_left c.args.page.now.lacing.now c.loop-size.size-index c.from-at.result c.loop-size-test.true c.from-at.ensures in
    let i : c.loop-size.size-index < 255 = omega (arith, c.requires.count) in
    elim c.if-ends_packet.branch [
      | then-ends_packet+in_ok-push w ↦
          let small : c.from-at.result < 255 = rw c.from-at.ensures (c.ends_packet.ensures.ends.0 w.if-ends_packet.true) in
          let packet = take (c.loop-size.at + c.from-at.result - c.loop-size.first) (drop c.loop-size.first c.args.page.now.body.now) in
          let before = map (λ p. p.now) c.loop-size.into.items in
          let all : map (λ p. p.now) c.if-ends_packet.into.items ≡ before ++ packet ∷ [] = rw (w.into-is, w.in_ok-push.ensures.items, map-append) refl in
          let size : length packet / 255 ≡ (c.loop-size.at - c.loop-size.first) / 255 = size_of_packet c.args.page.now.body.now c.loop-size.first c.loop-size.at c.from-at.result c.loop-size.invariant.order (omega arith) c.loop-size.invariant.whole (omega arith) in
          record {
            order = omega (arith, w.first-is);
            place = omega arith;
            packets = rw (w.first-is, all, sub_same)
                (ends_here before c.args.page.now.body.now c.args.page.now.lacing.now c.loop-size.first c.loop-size.at c.loop-size.size-index c.from-at.result c.loop-size.invariant.order c.loop-size-test.true c.from-at.ensures (omega arith) ∙ c.loop-size.invariant.packets);
            whole = rw (w.first-is, sub_same) refl;
            grows = rw (all, count-snoc) (omega arith);
            counted = rw (w.first-is, all, count-snoc, size, sub_same) (omega arith);
            short = rw all (λ old. short-snoc before packet (c.loop-size.invariant.short old) (omega arith));
          }
      | else-ends_packet w ↦
          let full : c.from-at.result ≡ 255 = c.from-at.ensures ∙ c.ends_packet.ensures.full w.if-ends_packet.false in
          record {
            order = omega (arith, w.first-is);
            place = omega arith;
            packets = rw (w.first-is, w.into-is)
                (goes_on (map (λ p. p.now) c.loop-size.into.items) c.args.page.now.body.now c.args.page.now.lacing.now c.loop-size.first c.loop-size.at c.loop-size.size-index c.from-at.result c.loop-size.invariant.order c.loop-size-test.true c.from-at.ensures (omega arith) ∙ c.loop-size.invariant.packets);
            whole = rw (w.first-is, full) (omega (arith, c.loop-size.invariant.whole));
            grows = rw w.into-is c.loop-size.invariant.grows;
            counted = rw (w.first-is, w.into-is, full) (omega (arith, c.loop-size.invariant.counted, c.loop-size.invariant.whole));
            short = rw w.into-is c.loop-size.invariant.short;
          }
    ]

pub returns-clause-added : goal.returns-clause-added
returns-clause-added c = sym (packets_end _ _ _ c.args.page.now.lacing.now c.loop-size.size-index c.loop-size-test.false) ∙ c.loop-size.invariant.packets
