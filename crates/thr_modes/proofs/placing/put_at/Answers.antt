use Rattle.std.proofs.Common.{◌≡◌, ◌∙◌, ◌<◌, length, map, get_or, sym, ap, refl, arith}
use Rattle.std.proofs.lemmas.List.{map-set, length-map, get_or-map}
use Rattle.thr_modes.specs.Vectors.{offset_of}
use Rattle.thr_modes.proofs.PutLemmas.{put_more, put_done}
use Rattle.thr_modes.proofs.placing.put_at.Goals as goal

pub places-preserved : goal.places-preserved
places-preserved c =
    let v = c.index-values-k.result in
    let place = get_or c.args.places.now c.places.k 0 in
    let within : c.places.k < length (map offset_of c.args.values.now) = omega (arith, length-map c.args.values.now offset_of, c.requires.values) in
    let is : get_or (map offset_of c.args.values.now) c.places.k (offset_of v) ≡ offset_of v = get_or-map offset_of c.args.values.now c.places.k v (offset_of v) (omega (arith, c.requires.values)) ∙ ap offset_of (sym c.index-values-k.is) in
    rw (map-set offset_of c.places.vectors place v)
    (put_more (map offset_of c.places.vectors) c.args.places.now (map offset_of c.args.values.now) c.places.k place (offset_of v) (omega arith) within refl is ∙ c.places.invariant)

pub returns : goal.returns
returns c = sym (put_done (map offset_of c.places.vectors) c.args.places.now _ c.places.k (omega arith)) ∙ c.places.invariant
