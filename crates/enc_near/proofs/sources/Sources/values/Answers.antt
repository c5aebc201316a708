use Rattle.std.proofs.Common.{◌≡◌, ◌∙◌, sym, subst}
use Rattle.vid_geom.specs.declared.block.Block.{Block}
use Rattle.vid_geom.proofs.OrderLemmas.{place_apart}
use Rattle.enc_near.specs.Made.{AreMade}
use Rattle.enc_near.specs.Sources.{matrix_by, wanted_by}
use Rattle.enc_near.proofs.sources.Sources.values.Goals as goal

pub returns : goal.returns
returns c = λ b is at.
    let from = c.args.self.now in
    let here = c.at-block.result in
    let same : here ≡ b = place_apart from.geom.now here b c.at-block.ensures.inside is (c.at-block.ensures.back ∙ sym at) in
    subst (λ (b : Block). AreMade (wanted_by from b) (matrix_by from b) c.coefficients.result) same (rw (← c.wanted.ensures.value, ← c.matrix.ensures.value) c.coefficients.ensures)
