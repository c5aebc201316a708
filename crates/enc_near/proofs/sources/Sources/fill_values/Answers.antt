use Rattle.std.proofs.Common.{◌∙◌, arith, length-set}
use Rattle.enc_near.proofs.MakingLemmas.{block_made}
use Rattle.enc_near.proofs.sources.Sources.fill_values.Goals as goal

pub loop-place-preserved : goal.loop-place-preserved
loop-place-preserved c =
    let place = c.loop-place.place in
    let values = c.loop-place.values in
    let here = c.loop-place.invariant in record {
      long = length-set values place c.values.result ∙ here.long;
      made = block_made c.args.self.now place values c.values.result (omega (arith, here.long, c.blocks-place-end.ensures.value)) c.values.ensures here.made;
    }

pub returns : goal.returns
returns c = λ b is below. c.loop-place.invariant.made b is (omega (arith, below, c.blocks-place-end.ensures.value))
