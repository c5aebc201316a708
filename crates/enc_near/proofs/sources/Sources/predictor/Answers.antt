use Rattle.std.proofs.Common.{◌≡◌, ◌∙◌, ◌<◌, length, get_or, map, arith}
use Rattle.std.proofs.lemmas.List.{get_or-map}
use Rattle.thr_modes.specs.Vectors.{offset_of, still}
use Rattle.thr_recon.specs.Predicted.{shown, predicted}
use Rattle.enc_near.specs.Sources.{refs_of}
use Rattle.enc_near.proofs.SampleLemmas.{flat_by, led_by}
use Rattle.enc_near.proofs.sources.Sources.predictor.Goals as goal

pub returns-then-kind-eq-NOTHING : goal.returns-then-kind-eq-NOTHING
unfolding shown
returns-then-kind-eq-NOTHING c =
    let from = c.args.self.now in
    flat_by from.geom.now (refs_of from) (get_or from.kinds.now c.args.place 0) (get_or (map offset_of from.vectors.now) c.args.place still) c.args.block c.if-kind-eq-NOTHING.true

pub returns : goal.returns
unfolding predicted offset_of
returns c =
    let from = c.args.self.now in
    let v = get_or from.vectors.now c.args.place c.index-self-place.result in
    let within : c.args.place < length from.vectors.now = omega (arith, from.vectors_sized, c.requires.place) in
    let vector : get_or (map offset_of from.vectors.now) c.args.place still ≡ offset_of v = get_or-map offset_of from.vectors.now c.args.place c.index-self-place.result still within in
    c.predict.ensures
    ∙ rw (c.reference.ensures.value, c.halves_columns.ensures, c.halves_rows.ensures, c.shape-shape.ensures, vector)
    (led_by from.geom.now (refs_of from) (get_or from.kinds.now c.args.place 0) (offset_of v) c.args.block c.if-kind-eq-NOTHING.false)
