use Rattle.std.proofs.Common.{◌≡◌, ◌++◌, ◌+◌, ◌-◌, ◌/◌, ◌∙◌, ℕ, length, drop, arith, length-drop, refl}
use Rattle.ogg_mux.specs.OutputPages.{packet_segments}
use Rattle.ogg_mux.proofs.OutputLemmas.{packet_segments-step, packet_segments-last}
use Rattle.ogg_mux.proofs.packets.add_packet.Goals as goal

pub loop-at-preserved : goal.loop-at-preserved
loop-at-preserved c =
    let at : ℕ = c.loop-at.at in
    let n : ℕ = length c.args.bytes.now in
    let segments : (n - at) / 255 + 1 ≡ (n - (at + 255)) / 255 + 1 + 1 = grind arith in
    let size : n - at ≡ n - (at + 255) + length c.front.result.now = omega (arith, c.front.ensures.len) in
    let room = rw (segments, size) at c.loop-at.invariant.room in
    record {
      place = omega arith;
      room = c.add.ensures.room refl ((n - (at + 255)) / 255 + 1) (n - (at + 255)) room;
      all = λ last more.
          let step = packet_segments-step c.args.bytes.now at c.args.granule c.args.least (omega arith) in
          c.add.ensures.all last (packet_segments (drop (at + 255) c.args.bytes.now) c.args.granule c.args.least ++ more)
          ∙ (rw c.front.ensures.bytes (rw step at (c.loop-at.invariant.all last more)));
    }

pub returns-clause-all : goal.returns-clause-all
returns-clause-all c last more =
    let one = packet_segments-last (drop c.loop-at.at c.args.bytes.now) c.args.granule c.args.least (rw length-drop (omega arith)) in
    c.add-2.ensures.all last more ∙ (rw c.back.ensures (rw one at (c.loop-at.invariant.all last more)))
