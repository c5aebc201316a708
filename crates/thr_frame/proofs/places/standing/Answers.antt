use Rattle.std.proofs.Common.{◌≡◌, ◌∙◌, get_or, true, false, sym, arith}
use Rattle.thr_frame.specs.QuantiserPlaces.{stands}
use Rattle.thr_frame.proofs.PlaceLemmas.{standing_more, standing_done}
use Rattle.thr_frame.proofs.places.standing.Goals.{then-stands, else-stands}
use Rattle.thr_frame.proofs.places.standing.Goals as goal

pub blocks-2-preserved : goal.blocks-2-preserved
blocks-2-preserved c = elim c.if-stands.branch [
  | then-stands w ↦
      let is : stands c.args.place (get_or c.args.flags.now c.blocks-2.b false) (get_or c.args.places.now c.blocks-2.b 0) ≡ true = sym c.stands.ensures ∙ w.if-stands.true in
      let more = standing_more c.args.place c.blocks-2.b c.args.flags.now c.args.places.now true (omega arith) (omega (arith, c.requires)) is in
      record { counted = omega (arith, w.count-is, more, c.blocks-2.invariant.counted); most = omega (arith, w.count-is, c.blocks-2.invariant.most) }
  | else-stands w ↦
      let is : stands c.args.place (get_or c.args.flags.now c.blocks-2.b false) (get_or c.args.places.now c.blocks-2.b 0) ≡ false = sym c.stands.ensures ∙ w.if-stands.false in
      let more = standing_more c.args.place c.blocks-2.b c.args.flags.now c.args.places.now false (omega arith) (omega (arith, c.requires)) is in
      record { counted = omega (arith, w.count-is, more, c.blocks-2.invariant.counted); most = omega (arith, w.count-is, c.blocks-2.invariant.most) }
]

pub returns-clause-value : goal.returns-clause-value
returns-clause-value c = omega (arith, standing_done c.args.place c.blocks-2.b c.args.flags.now c.args.places.now (omega arith), c.blocks-2.invariant.counted)
