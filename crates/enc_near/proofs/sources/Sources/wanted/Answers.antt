use Rattle.std.proofs.Common.{◌∙◌, ℕ, get_or, map, ap}
use Rattle.vid_geom.specs.CodedOrder.{place_of}
use Rattle.thr_dct.specs.Forward.{forward_of}
use Rattle.thr_modes.specs.Vectors.{offset_of, still}
use Rattle.thr_recon.specs.Rebuilt.{block_of}
use Rattle.enc_search.specs.Searched.{Samples, block_samples}
use Rattle.enc_near.specs.Made.{samples_by}
use Rattle.enc_near.specs.Sources.{refs_of, wanted_by}
use Rattle.enc_near.proofs.sources.Sources.wanted.Goals as goal

pub returns-clause-value : goal.returns-clause-value
unfolding wanted_by
returns-clause-value c =
    let from = c.args.self.now in
    let b = c.args.block in
    let by : ℕ → Samples = λ place. samples_by from.geom.now (refs_of from) (get_or from.kinds.now place 0) (get_or (map offset_of from.vectors.now) place still) b in
    let predicted = c.block-predicted.ensures ∙ ap block_of (c.predictor.ensures ∙ ap by c.requires.place) in
    c.forward.ensures.value ∙ ap forward_of (c.lacking.ensures.value (block_samples from.target.now b) (by (place_of from.geom.now b)) c.target_rows.ensures predicted)
